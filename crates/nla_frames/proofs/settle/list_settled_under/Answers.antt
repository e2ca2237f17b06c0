use Rattle.std.proofs.Common.{arith, subst, sym, refl}
use Rattle.nla_frames.specs.Reading.{keep}
use Rattle.nla_frames.proofs.ListWriting.{IsAt}
use Rattle.nla_frames.proofs.SettledSteps.{settled_seen, all_seen, settled_start, settled_next, unsettled, settled_end}
use Rattle.nla_frames.proofs.settle.list_settled_under.Goals as goal

pub loop-item-init : goal.loop-item-init
loop-item-init g c = let m = g.T.FrameMeaning in
    settled_start (λ y. m.codec.Typed (m.see y)) (λ k y. m.codec.Settled k (m.see y)) keep c.args.kind.now c.args.items.now

pub returns-then-not-is_settled_under-clause-settled : goal.returns-then-not-is_settled_under-clause-settled
returns-then-not-is_settled_under-clause-settled g c =
    let m = g.T.FrameMeaning in
    let here : IsAt c.args.items.now c.loop-item.item-index c.item-item.result = record { within = omega arith; is = c.item-item.is } in
    let not : m.codec.Settled c.args.kind.now (m.see c.item-item.result) → ⊥ =
    λ s. absurd (cc (c.is_settled_under.ensures.settled.1 s, c.if-not-is_settled_under.true)) in
    let never = unsettled (λ y. m.codec.Typed (m.see y))
    (λ k y. m.codec.Settled k (m.see y)) keep c.args.kind.now c.args.items.now here _ c.loop-item.invariant not in
    (λ yes. absurd (cc yes), λ all. absurd (never (subst (λ t. t) (settled_seen m.see m.codec.Settled keep c.args.kind.now c.args.items.now) all)))

pub loop-item-preserved : goal.loop-item-preserved
loop-item-preserved g c =
    let m = g.T.FrameMeaning in
    let here : IsAt c.args.items.now c.loop-item.item-index c.item-item.result = record { within = omega arith; is = c.item-item.is } in
    let yes = c.if-not-is_settled_under.false in
    settled_next (λ y. m.codec.Typed (m.see y)) (λ k y. m.codec.Settled k (m.see y)) keep c.args.kind.now c.args.items.now here _ c.loop-item.invariant
    (c.is_settled_under.ensures.typed yes) (c.is_settled_under.ensures.settled.0 yes)

pub returns-clause-settled : goal.returns-clause-settled
returns-clause-settled g c =
    let m = g.T.FrameMeaning in
    let end = settled_end (λ y. m.codec.Typed (m.see y)) (λ k y. m.codec.Settled k (m.see y)) keep c.args.kind.now c.args.items.now _ c.loop-item.item-index
    (omega arith) c.loop-item.invariant in
    (λ _. subst (λ t. t) (sym (settled_seen m.see m.codec.Settled keep c.args.kind.now c.args.items.now)) end.0, λ _. refl)

pub returns-clause-typed : goal.returns-clause-typed
returns-clause-typed g c =
    let m = g.T.FrameMeaning in
    let end = settled_end (λ y. m.codec.Typed (m.see y)) (λ k y. m.codec.Settled k (m.see y)) keep c.args.kind.now c.args.items.now _ c.loop-item.item-index
    (omega arith) c.loop-item.invariant in
    λ _. subst (λ t. t) (sym (all_seen m.see m.codec.Typed c.args.items.now)) end.1

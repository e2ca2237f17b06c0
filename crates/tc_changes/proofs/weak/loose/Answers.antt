use Rattle.std.proofs.Common.{◌≡◌, Bool, ◌&&◌, ◌++◌, ◌∷◌, [], ◌+◌, take, drop, refl, sym, ap, subst, ◌∙◌}
use Rattle.std.specs.HashSet as bag
use Rattle.std.specs.List.{list_any}
use Rattle.tc_changes.specs.Model.{unders}
use Rattle.tc_changes.specs.Requests.{holds, is_settled, settled}
use Rattle.tc_changes.specs.Objects.{thing, things, same_key, IsSetOf}
use Rattle.tc_changes.specs.declared.key.Key.{Key}
use Rattle.tc_changes.proofs.Lookups.{and_false, and_two}
use Rattle.tc_changes.proofs.Firsts.{things_split, things_more}
use Rattle.tc_changes.proofs.Losses.{held_none, settled-append, unders-push}
use Rattle.tc_changes.proofs.weak.loose.Goals as goal

pub returns-then-not-is_settled-clause-none : goal.returns-then-not-is_settled-clause-none
returns-then-not-is_settled-clause-none g c =
    let i = c.loop-object.object-index in
    let xs = c.args.state.now in
    let x = c.object-item.result in
    let front = things (take i xs) in
    let rest = things (drop (i + 1) xs) in
    let state = things xs in
    let weak : Key → Bool = g.R.Rules.weak c.args.rules.now in
    let held_are : (k : Key) → bag.contains same_key c.in_ok-held.held k ≡ list_any (holds same_key k) state =
    λ k. c.in_ok-held.ensures k ∙ held_none (bag.contains same_key c.new.result) (λ j. ap (list_any _) c.new.ensures.empty) state k in
    let set_now : IsSetOf c.in_ok-unders.unders (unders front ++ x.under.items) =
    subst (λ l. IsSetOf c.in_ok-unders.unders (unders front ++ l)) c.deref.ensures.value (c.in_ok-unders.ensures (unders front) c.loop-object.invariant.keys) in
    let is = c.if-not-is_settled.ensures state (unders front ++ x.under.items) held_are set_now in
    sym (ap (settled same_key weak state []) (sym (things_split xs i x c.loop-object-test.true c.object-item.is))
    ∙ settled-append weak state [] front (thing x ∷ rest)
    ∙ ap (λ b. settled same_key weak state [] front && (b && settled same_key weak state (unders front ++ x.under.items) rest)) (sym is)
    ∙ and_false (settled same_key weak state [] front))

pub returns-then-not-is_settled-clause-some : goal.returns-then-not-is_settled-clause-some
returns-then-not-is_settled-clause-some g c =
    let i = c.loop-object.object-index in
    let xs = c.args.state.now in
    let x = c.object-item.result in
    let front = things (take i xs) in
    let state = things xs in
    let held_are : (k : Key) → bag.contains same_key c.in_ok-held.held k ≡ list_any (holds same_key k) state =
    λ k. c.in_ok-held.ensures k ∙ held_none (bag.contains same_key c.new.result) (λ j. ap (list_any _) c.new.ensures.empty) state k in
    let set_now : IsSetOf c.in_ok-unders.unders (unders front ++ x.under.items) =
    subst (λ l. IsSetOf c.in_ok-unders.unders (unders front ++ l)) c.deref.ensures.value (c.in_ok-unders.ensures (unders front) c.loop-object.invariant.keys) in (
      front,
      thing x,
      things (drop (i + 1) xs),
      sym (things_split xs i x c.loop-object-test.true c.object-item.is),
      refl,
      sym (c.if-not-is_settled.ensures state (unders front ++ x.under.items) held_are set_now),
    )

pub loop-object-preserved : goal.loop-object-preserved
loop-object-preserved g c =
    let i = c.loop-object.object-index in
    let xs = c.args.state.now in
    let x = c.object-item.result in
    let front = things (take i xs) in
    let state = things xs in
    let weak : Key → Bool = g.R.Rules.weak c.args.rules.now in
    let held_are : (k : Key) → bag.contains same_key c.in_ok-held.held k ≡ list_any (holds same_key k) state =
    λ k. c.in_ok-held.ensures k ∙ held_none (bag.contains same_key c.new.result) (λ j. ap (list_any _) c.new.ensures.empty) state k in
    let set_now : IsSetOf c.in_ok-unders.unders (unders front ++ x.under.items) =
    subst (λ l. IsSetOf c.in_ok-unders.unders (unders front ++ l)) c.deref.ensures.value (c.in_ok-unders.ensures (unders front) c.loop-object.invariant.keys) in
    let is = c.if-not-is_settled.ensures state (unders front ++ x.under.items) held_are set_now in
    let more = things_more xs i x c.loop-object-test.true c.object-item.is in
    record {
      keys = subst (λ l. IsSetOf c.in_ok-unders.unders (unders l)) more
          (subst (IsSetOf c.in_ok-unders.unders) (sym (unders-push front (thing x))) set_now);
      order = ap (settled same_key weak state []) (sym more) ∙ settled-append weak state [] front (thing x ∷ [])
          ∙ and_two (settled same_key weak state [] front) _ c.loop-object.invariant.order
          (and_two (is_settled same_key weak state (unders front ++ x.under.items) (thing x)) _ (sym is) refl);
    }

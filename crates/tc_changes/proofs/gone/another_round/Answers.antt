use Rattle.std.proofs.Common.{◌≡◌, Bool, [], ◌∷◌, ◌++◌, ◌+◌, Some, take, drop, refl, sym, subst, ◌∙◌}
use Rattle.std.specs.List.{AllByRecursion}
use Rattle.std.specs.HashSet as bag
use Rattle.tc_changes.specs.Model.{found}
use Rattle.tc_changes.specs.Planned.{IsRound}
use Rattle.tc_changes.specs.Promises.{suits}
use Rattle.tc_changes.specs.Objects.{KernelThing, thing, things, same_key, alike}
use Rattle.tc_changes.specs.declared.key.Key.{Key}
use Rattle.tc_changes.proofs.Equal.{key_is, key_same, alike_is}
use Rattle.tc_changes.proofs.Firsts.{things_split, things_more}
use Rattle.tc_changes.proofs.Keeps.{all_found}
use Rattle.tc_changes.proofs.Losses.{round_same, round_more}
use Rattle.tc_changes.proofs.gone.another_round.Goals as goal
use Rattle.tc_changes.proofs.gone.another_round.Goals.{then-not-contains+then-goes+in_ok-insert, else-not-contains}
use Rattle.tc_changes.proofs.gone.another_round.Goals.{else-not-contains-via-then-not-contains+else-goes, else-not-contains-via-else-not-contains}

pub loop-object-preserved : goal.loop-object-preserved
loop-object-preserved g c =
    let i = c.loop-object.object-index in
    let xs = c.args.state.now in
    let x = c.object-item.result in
    let front = things (take i xs) in
    let state = things xs in
    let want = things c.args.want.now in
    let weak : Key → Bool = g.R.Rules.weak c.args.rules.now in
    let fit : KernelThing → KernelThing → Bool = suits weak (g.R.Rules.takes c.args.rules.now) in
    let before : Key → Bool = bag.contains same_key c.args.gone in
    let after : Key → Bool = bag.contains same_key c.loop-object.more in
    let hold : Key → Bool = bag.contains same_key c.args.referred.now in
    let here : AllByRecursion (λ o. found same_key state o.key ≡ Some o) state =
    all_found same_key key_is key_same alike (g.R.Rules.takes c.args.rules.now) alike_is [] state state refl c.requires.state_ready in
    let at : found same_key state x.key ≡ Some (thing x) =
    (all_found same_key key_is key_same alike (g.R.Rules.takes c.args.rules.now) alike_is front (thing x ∷ things (drop (i + 1) xs)) state
    (things_split xs i x c.loop-object-test.true c.object-item.is) c.requires.state_ready).0 in
    subst (IsRound same_key weak fit state want before (bag.contains same_key c.if-not-contains.more) c.if-not-contains.is_more)
    (things_more xs i x c.loop-object-test.true c.object-item.is)
    (elim c.if-not-contains.branch [
      | then-not-contains+then-goes+in_ok-insert w ↦
          subst (λ m. IsRound same_key weak fit state want before (bag.contains same_key m) c.if-not-contains.is_more (front ++ thing x ∷ [])) (sym w.more-is)
          (subst (λ b. IsRound same_key weak fit state want before (bag.contains same_key w.insert.new.self) b (front ++ thing x ∷ [])) (sym w.is_more-is)
          (round_more weak fit state want here before after hold c.requires.held_is (bag.contains same_key w.insert.new.self) c.loop-object.is_more front
          (thing x) c.loop-object.invariant at (sym w.if-not-contains.ensures) (sym w.goes.ensures ∙ w.if-goes.true) w.in_ok-insert.ensures.updates.0))
      | else-not-contains w ↦
          subst (λ m. IsRound same_key weak fit state want before (bag.contains same_key m) c.if-not-contains.is_more (front ++ thing x ∷ [])) (sym w.more-is)
          (subst (λ b. IsRound same_key weak fit state want before after b (front ++ thing x ∷ [])) (sym w.is_more-is)
          (round_same weak fit state want here before after hold c.requires.held_is c.loop-object.is_more front (thing x) c.loop-object.invariant
          (elim w.else-not-contains.branch [
            | else-not-contains-via-then-not-contains+else-goes v ↦ λ _. sym v.goes.ensures ∙ v.if-goes.false
            | else-not-contains-via-else-not-contains v ↦ λ off. absurd (cc (v.if-not-contains.ensures ∙ off))
          ])))
    ])

use Rattle.std.proofs.Common.{Bool, not, cond, ◌++◌, take, sym, ap, subst, ◌∙◌}
use Rattle.std.specs.HashSet as bag
use Rattle.std.proofs.lemmas.List.{take_all}
use Rattle.tc_changes.specs.Model.{among}
use Rattle.tc_changes.specs.Objects.{thing, things, same_key, IsSetOf}
use Rattle.tc_changes.specs.declared.key.Key.{Key}
use Rattle.tc_changes.proofs.Firsts.{things_more}
use Rattle.tc_changes.proofs.Losses.{refs, refs_are, refs-push}
use Rattle.tc_changes.proofs.weak.held_by.Goals as goal
use Rattle.tc_changes.proofs.weak.held_by.Goals.{then-not-contains+in_ok-held, else-not-contains}

pub loop-object-preserved : goal.loop-object-preserved
loop-object-preserved g c =
    let i = c.loop-object.object-index in
    let xs = c.args.state.now in
    let x = c.object-item.result in
    let front = things (take i xs) in
    let gone : Key → Bool = bag.contains same_key c.args.gone.now in
    subst (λ l. IsSetOf c.if-not-contains.held (refs gone l)) (things_more xs i x c.loop-object-test.true c.object-item.is)
    (subst (IsSetOf c.if-not-contains.held) (sym (refs-push gone front (thing x)))
    (elim c.if-not-contains.branch [
      | then-not-contains+in_ok-held w ↦
          subst (λ h. IsSetOf h (cond (not (gone x.key)) (refs gone front ++ x.refers.items) (refs gone front))) (sym w.held-is)
          (subst (λ b. IsSetOf w.in_ok-held.held (cond (not b) (refs gone front ++ x.refers.items) (refs gone front))) w.if-not-contains.ensures
          (subst (λ l. IsSetOf w.in_ok-held.held (refs gone front ++ l)) w.deref.ensures.value
          (w.in_ok-held.ensures (refs gone front) c.loop-object.invariant)))
      | else-not-contains w ↦
          subst (λ h. IsSetOf h (cond (not (gone x.key)) (refs gone front ++ x.refers.items) (refs gone front))) (sym w.held-is)
          (subst (λ b. IsSetOf c.loop-object.held (cond (not b) (refs gone front ++ x.refers.items) (refs gone front))) w.if-not-contains.ensures
          c.loop-object.invariant)
    ]))

pub returns : goal.returns
returns g c = λ k.
    let gone : Key → Bool = bag.contains same_key c.args.gone.now in
    c.loop-object.invariant k
    ∙ ap (λ l. among same_key (refs gone (things l)) k) (take_all c.loop-object.object-index c.args.state.now c.loop-object-test.false)
    ∙ refs_are gone (things c.args.state.now) k

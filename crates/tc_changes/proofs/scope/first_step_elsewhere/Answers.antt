use Rattle.std.proofs.Common.{map, sym, ap, subst, ◌∙◌}
use Rattle.std.proofs.lemmas.List.{take_all}
use Rattle.tc_changes.specs.Plans.{key_of}
use Rattle.tc_changes.specs.Objects.{request}
use Rattle.tc_changes.specs.Scope.{is_named, IsWithin}
use Rattle.tc_changes.proofs.Named.{not_all_at}
use Rattle.tc_changes.proofs.scope.first_step_elsewhere.Goals as goal

pub returns-then-not-is_named-clause-elsewhere : goal.returns-then-not-is_named-clause-elsewhere
returns-then-not-is_named-clause-elsewhere g c = λ some is within.
    let off = ap (is_named some) (sym c.key_of-key.ensures) ∙ sym (c.if-not-is_named.ensures some is) in
    absurd (cc (sym within
    ∙ not_all_at (λ r. is_named some (key_of r)) request c.args.steps.now c.loop-step.step-index c.step-item.result c.loop-step-test.true c.step-item.is off))

pub returns-clause-within : goal.returns-clause-within
returns-clause-within g c = λ some is.
    subst (λ l. IsWithin some (map request l)) (take_all c.loop-step.step-index c.args.steps.now c.loop-step-test.false) (c.loop-step.invariant some is)

use Rattle.std.proofs.Common.{List, map, sym, subst}
use Rattle.std.specs.Prelude.{IfNone, IfSome}
use Rattle.tc_changes.specs.Objects.{request, IfSteps, IsSetOf}
use Rattle.tc_changes.specs.Scope.{IsWithin}
use Rattle.tc_changes.specs.declared.key.Key.{Key}
use Rattle.tc_changes.proofs.scope.first_elsewhere.Goals as goal

pub returns-in-Steps-clause-within : goal.returns-in-Steps-clause-within
returns-in-Steps-clause-within g c =
    let found = c.first_step_elsewhere.result in
    subst (λ p. IfNone found ((some : List Key) → IsSetOf c.args.named.now some → IfSteps p (IsWithin some))) (sym c.in-Steps.is)
    (subst (λ l. IfNone found ((some : List Key) → IsSetOf c.args.named.now some → IsWithin some (map request l))) c.deref.ensures.value
    c.first_step_elsewhere.ensures.within)

pub returns-in-Steps-clause-elsewhere : goal.returns-in-Steps-clause-elsewhere
returns-in-Steps-clause-elsewhere g c =
    let found = c.first_step_elsewhere.result in
    subst (λ p. IfSome found (λ _. (some : List Key) → IsSetOf c.args.named.now some → ¬ IfSteps p (IsWithin some))) (sym c.in-Steps.is)
    (subst (λ l. IfSome found (λ _. (some : List Key) → IsSetOf c.args.named.now some → ¬ IsWithin some (map request l))) c.deref.ensures.value
    c.first_step_elsewhere.ensures.elsewhere)

use Rattle.std.proofs.Common.{List, map, take}
use Rattle.tc_changes.specs.Objects.{request, IsSetOf}
use Rattle.tc_changes.specs.Scope.{IsWithin}
use Rattle.tc_changes.specs.declared.key.Key.{Key as KeyModel}
use Rattle.tc_changes.proofs.scope.first_step_elsewhere.Given as goal

abbrev pub invariant-loop-step : goal.invariant-loop-step
invariant-loop-step g l = (some : List KeyModel) → IsSetOf l.named some → IsWithin some (map request (take l.step-index l.steps))

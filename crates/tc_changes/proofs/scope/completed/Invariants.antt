use Rattle.std.proofs.Common.{◌≡◌, List, take}
use Rattle.tc_changes.specs.Objects.{things, IsSetOf}
use Rattle.tc_changes.specs.Scope.{completed}
use Rattle.tc_changes.specs.declared.key.Key.{Key as KeyModel}
use Rattle.tc_changes.proofs.scope.completed.Given as goal

abbrev pub invariant-loop-object : goal.invariant-loop-object
invariant-loop-object g l = (some : List KeyModel) → IsSetOf l.named some
    → things l.all.items ≡ completed some (things (take l.object-index l.state)) (things l.fn.want.items)

use Rattle.std.proofs.Common.{◌++◌, List, map, take}
use Rattle.tc_changes.specs.Objects.{things, IsSetOf}
use Rattle.tc_changes.specs.Scope.{scope_of}
use Rattle.tc_changes.specs.declared.key.Key.{Key as KeyModel}
use Rattle.tc_changes.proofs.scope.with_objects.Given as goal

abbrev pub invariant-loop-object : goal.invariant-loop-object
invariant-loop-object g l = (some : List KeyModel) → IsSetOf l.fn.named some
    → IsSetOf l.named (some ++ map (λ o. scope_of o.key) (things (take l.object-index l.objects)))

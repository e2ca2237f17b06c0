use Rattle.std.proofs.Common.{◌++◌, List, map, take}
use Rattle.tc_changes.specs.Objects.{IsSetOf}
use Rattle.tc_changes.specs.Scope.{scope_of}
use Rattle.tc_changes.specs.declared.key.Key.{Key as KeyModel}
use Rattle.tc_changes.proofs.scope.with_keys.Given as goal

abbrev pub invariant-loop-key : goal.invariant-loop-key
invariant-loop-key g l = (some : List KeyModel) → IsSetOf l.fn.named some → IsSetOf l.named (some ++ map scope_of (take l.key-index l.keys))

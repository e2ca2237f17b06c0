use Rattle.std.proofs.Common.{◌++◌, List, take}
use Rattle.tc_changes.specs.Objects.{IsSetOf}
use Rattle.tc_changes.specs.declared.key.Key.{Key as KeyModel}
use Rattle.tc_changes.proofs.keys.with_all.Given as goal

abbrev pub invariant-loop-key : goal.invariant-loop-key
invariant-loop-key g l = (some : List KeyModel) → IsSetOf l.fn.set some → IsSetOf l.made (some ++ take l.key-index l.keys)

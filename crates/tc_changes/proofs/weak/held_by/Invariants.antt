use Rattle.std.proofs.Common.{take}
use Rattle.std.specs.HashSet as bag
use Rattle.tc_changes.specs.Objects.{things, same_key, IsSetOf}
use Rattle.tc_changes.proofs.Losses.{refs}
use Rattle.tc_changes.proofs.weak.held_by.Given as goal

abbrev pub invariant-loop-object : goal.invariant-loop-object
invariant-loop-object g l = IsSetOf l.held (refs (bag.contains same_key l.gone) (things (take l.object-index l.state)))

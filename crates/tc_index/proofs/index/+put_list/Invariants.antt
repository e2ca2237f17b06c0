use Rattle.std.proofs.Common.{length, ◌-◌}
use Rattle.tc_index.specs.Views.{left_in}
use Rattle.tc_index.proofs.Putting.{Putting}
use Rattle.tc_index.proofs.index.+put_list.Given as goal

abbrev pub decreases-put_list : goal.decreases-put_list
decreases-put_list g l = 4 - l.depth

abbrev pub invariant-loop-level : goal.invariant-loop-level
invariant-loop-level g l =
    Putting g.S.Slot.seen l.fn.count (left_in l.depth l.list) l.fn.slots l.count (left_in l.depth l.level) l.slots

abbrev pub decreases-loop-level : goal.decreases-loop-level
decreases-loop-level g l = length (left_in l.depth l.level)

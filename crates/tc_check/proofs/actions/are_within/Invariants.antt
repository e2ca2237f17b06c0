use Rattle.std.proofs.Common.{◌≡◌}
use Rattle.std.specs.List.{list_all}
use Rattle.nla_frames.specs.Cutting.{cut, items_of}
use Rattle.nla_frames.specs.Iterator.{items_left}
use Rattle.tc_check.specs.Actions.{is_item_within}
use Rattle.tc_check.proofs.actions.are_within.Given as goal

abbrev pub invariant-loop-frame : goal.invariant-loop-frame
invariant-loop-frame l =
    list_all (is_item_within l.scope l.is_delete) (items_left l.frame-iterator) ≡ list_all (is_item_within l.scope l.is_delete) (items_of (cut l.list))

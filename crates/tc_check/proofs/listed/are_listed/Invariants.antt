use Rattle.std.proofs.Common.{◌≡◌}
use Rattle.std.specs.List.{list_all}
use Rattle.nla_frames.specs.Cutting.{cut, items_of}
use Rattle.nla_frames.specs.Iterator.{items_left}
use Rattle.tc_check.specs.Named.{is_item_there}
use Rattle.tc_check.proofs.listed.are_listed.Given as goal

abbrev pub invariant-loop-frame : goal.invariant-loop-frame
invariant-loop-frame l =
    list_all (is_item_there l.now l.is_delete) (items_left l.frame-iterator) ≡ list_all (is_item_there l.now l.is_delete) (items_of (cut l.list))

use Rattle.std.proofs.Common.{◌≡◌}
use Rattle.std.specs.List.{list_any}
use Rattle.nla_frames.specs.Cutting.{cut, items_of}
use Rattle.nla_frames.specs.Iterator.{items_left}
use Rattle.tc_check.specs.Named.{is_item_named}
use Rattle.tc_check.proofs.listed.has_named.Given as goal

abbrev pub invariant-loop-frame : goal.invariant-loop-frame
invariant-loop-frame l =
    list_any (is_item_named l.kind l.index) (items_left l.frame-iterator) ≡ list_any (is_item_named l.kind l.index) (items_of (cut l.list))

use Rattle.std.proofs.Common.{◌≡◌}
use Rattle.std.specs.Prelude.{is_ok}
use Rattle.std.specs.List.{list_all}
use Rattle.nla_frames.specs.Cutting.{cut, items_of}
use Rattle.nla_frames.specs.Iterator.{items_left}
use Rattle.tc_check.proofs.attributes.is_list.Given as goal

abbrev pub invariant-loop-frame : goal.invariant-loop-frame
invariant-loop-frame l = list_all is_ok (items_left l.frame-iterator) ≡ list_all is_ok (items_of (cut l.bytes))

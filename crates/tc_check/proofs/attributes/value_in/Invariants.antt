use Rattle.std.proofs.Common.{◌≡◌, None}
use Rattle.nla_frames.specs.Cutting.{cut, items_of}
use Rattle.nla_frames.specs.Iterator.{items_left}
use Rattle.nla_frames.specs.OnlyKind.{text_set}
use Rattle.tc_check.specs.Messages.{last_value}
use Rattle.tc_check.proofs.attributes.value_in.Given as goal

abbrev pub invariant-loop-frame : goal.invariant-loop-frame
invariant-loop-frame l = last_value l.number (text_set l.found) (items_left l.frame-iterator) ≡ last_value l.number None (items_of (cut l.bytes))

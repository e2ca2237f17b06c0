use Rattle.std.proofs.Common.{◌≡◌}
use Rattle.nla_frames.specs.Cutting.{cut, items_of}
use Rattle.nla_frames.specs.Iterator.{items_left}
use Rattle.tc_index.specs.Nesting.{first_kind}
use Rattle.tc_index.proofs.nesting.first_kind.Given as goal

abbrev pub invariant-loop-frame : goal.invariant-loop-frame
invariant-loop-frame l = first_kind (items_left l.frame-iterator) ≡ first_kind (items_of (cut l.value))

use Rattle.std.proofs.Common.{◌≡◌, ◌<◌, ◌-◌, ◌^◌}
use Rattle.std.specs.Prelude.{min}
use Rattle.nla_frames.specs.Cutting.{cut, items_of}
use Rattle.nla_frames.specs.Iterator.{items_left}
use Rattle.tc_faults.specs.Located.{offset_in_frames}
use Rattle.tc_faults.proofs.fault.action.place_in.Given as goal

abbrev pub invariant-loop-frame : goal.invariant-loop-frame
invariant-loop-frame l = record {
  fits : l.at < 2 ^ 64;
  same : min (offset_in_frames l.action.offset l.at (items_left l.frame-iterator)) (2 ^ 64 - 1)
      ≡ min (offset_in_frames l.action.offset l.action.offset (items_of (cut l.action.value.now))) (2 ^ 64 - 1);
}

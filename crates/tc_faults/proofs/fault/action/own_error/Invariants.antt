use Rattle.std.proofs.Common.{◌≡◌}
use Rattle.nla_frames.specs.Iterator.{items_left}
use Rattle.tc_faults.specs.Fault.{action_fault}
use Rattle.tc_faults.proofs.OwnKinds.{error_after}
use Rattle.tc_faults.proofs.fault.action.own_error.Given as goal

abbrev pub invariant-loop-frame : goal.invariant-loop-frame
invariant-loop-frame l = error_after l.kinds (items_left l.frame-iterator) ≡ action_fault l.value

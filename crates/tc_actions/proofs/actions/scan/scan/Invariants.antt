use Rattle.nla_frames.specs.Iterator.{items_left}
use Rattle.tc_actions.proofs.Scanning.{ScannedSoFar}
use Rattle.tc_actions.proofs.actions.scan.scan.Given as goal

abbrev pub invariant-loop-frame : goal.invariant-loop-frame
invariant-loop-frame g l = ScannedSoFar l.bytes (items_left l.frame-iterator) l.frames.items l.only

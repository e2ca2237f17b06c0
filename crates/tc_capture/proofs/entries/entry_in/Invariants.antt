use Rattle.std.proofs.Common.{◌≡◌, length}
use Rattle.tc_capture.specs.Entries.{entry_in}
use Rattle.tc_capture.proofs.entries.entry_in.Given as goal

abbrev pub invariant-loop-rest : goal.invariant-loop-rest
invariant-loop-rest l = entry_in l.entries l.kind l.rest ≡ entry_in l.entries l.kind l.bytes

abbrev pub decreases-loop-rest : goal.decreases-loop-rest
decreases-loop-rest l = length l.rest

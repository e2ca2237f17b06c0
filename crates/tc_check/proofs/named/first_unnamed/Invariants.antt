use Rattle.std.proofs.Common.{◌≡◌, length}
use Rattle.tc_check.specs.Named.{all_named}
use Rattle.tc_check.proofs.named.first_unnamed.Given as goal

abbrev pub invariant-loop-rest : goal.invariant-loop-rest
invariant-loop-rest l = all_named l.now l.wanted l.rest ≡ all_named l.now l.wanted l.requests

abbrev pub decreases-loop-rest : goal.decreases-loop-rest
decreases-loop-rest l = length l.rest

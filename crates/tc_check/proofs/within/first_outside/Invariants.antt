use Rattle.std.proofs.Common.{◌≡◌, true, take}
use Rattle.tc_check.specs.Within.{all_within}
use Rattle.tc_check.proofs.within.first_outside.Given as goal

-- the requests so far are within
abbrev pub invariant-loop-place : goal.invariant-loop-place
invariant-loop-place l = all_within l.scope (take l.place l.requests) ≡ true

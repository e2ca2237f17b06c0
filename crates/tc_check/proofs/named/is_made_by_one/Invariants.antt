use Rattle.std.proofs.Common.{◌≡◌, false, take}
use Rattle.tc_check.specs.Named.{is_made_by_one}
use Rattle.tc_check.proofs.named.is_made_by_one.Given as goal

abbrev pub invariant-loop-request : goal.invariant-loop-request
invariant-loop-request l = is_made_by_one (take l.request-index l.later) l.sort l.dump ≡ false

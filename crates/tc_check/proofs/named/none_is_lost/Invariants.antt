use Rattle.std.proofs.Common.{◌≡◌, true, take}
use Rattle.tc_check.specs.Named.{none_is_lost}
use Rattle.tc_check.proofs.named.none_is_lost.Given as goal

abbrev pub invariant-loop-dump : goal.invariant-loop-dump
invariant-loop-dump l = none_is_lost (take l.dump-index l.wanted) l.later l.sort l.request ≡ true

use Rattle.std.proofs.Common.{◌≡◌, false, take}
use Rattle.tc_check.specs.Named.{is_listed}
use Rattle.tc_check.proofs.listed.is_listed.Given as goal

abbrev pub invariant-loop-dump : goal.invariant-loop-dump
invariant-loop-dump l = is_listed (take l.dump-index l.now) l.kind l.index ≡ false

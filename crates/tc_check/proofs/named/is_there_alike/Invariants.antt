use Rattle.std.proofs.Common.{◌≡◌, false, take}
use Rattle.tc_check.specs.Named.{is_there_alike}
use Rattle.tc_check.proofs.named.is_there_alike.Given as goal

abbrev pub invariant-loop-dump : goal.invariant-loop-dump
invariant-loop-dump l = is_there_alike (take l.dump-index l.now) l.sort l.request ≡ false

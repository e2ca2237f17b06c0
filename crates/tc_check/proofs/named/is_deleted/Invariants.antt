use Rattle.std.proofs.Common.{◌≡◌, false, take}
use Rattle.tc_check.specs.Named.{is_deleted}
use Rattle.tc_check.proofs.named.is_deleted.Given as goal

abbrev pub invariant-loop-dump : goal.invariant-loop-dump
invariant-loop-dump l = is_deleted (take l.dump-index l.now) l.sort l.request ≡ false

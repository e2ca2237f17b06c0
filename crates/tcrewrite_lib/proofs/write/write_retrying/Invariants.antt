use Rattle.std.specs.Io.KnownBytes.{Keeps}
use Rattle.tcrewrite_lib.proofs.write.write_retrying.Given as goal

-- nothing is written as long as writes are interrupted
abbrev pub invariant-tries : goal.invariant-tries
invariant-tries g l = Keeps (g.W.Write.contents l.fn.writer) (g.W.Write.contents l.writer)

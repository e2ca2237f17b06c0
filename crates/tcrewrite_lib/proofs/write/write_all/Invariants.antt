use Rattle.std.proofs.Common.{length}
use Rattle.tcrewrite_lib.specs.Written.{GrowsByFront}
use Rattle.tcrewrite_lib.proofs.write.write_all.Given as goal

-- what is written is the front, and what is left the rest
abbrev pub invariant-parts : goal.invariant-parts
invariant-parts g l = GrowsByFront (g.W.Write.contents l.fn.writer) (g.W.Write.contents l.writer) l.bytes l.rest

abbrev pub decreases-parts : goal.decreases-parts
decreases-parts g l = length l.rest

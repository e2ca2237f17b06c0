use Rattle.std.proofs.Common.{rules}
use Rattle.tcrewrite_lib.proofs.Fronts.{front_more}
use Rattle.tcrewrite_lib.proofs.write.write_all.Goals as goal

pub parts-preserved : goal.parts-preserved
parts-preserved g c = front_more _ _ _ _ _ _ _ c.parts.invariant (search rules) c.in_ok-count.ensures.front

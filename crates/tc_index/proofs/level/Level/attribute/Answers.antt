use Rattle.std.proofs.Common.{arith, ap, length}
use Rattle.tc_index.proofs.Frames.{first-fits}
use Rattle.tc_index.proofs.level.Level.attribute.Goals as goal

pub overflow_add-result : goal.overflow_add-result
overflow_add-result c = let fits = first-fits _ _ c.requires in omega (arith, fits, c.args.self.now.within)

pub returns-clause-within : goal.returns-clause-within
returns-clause-within c =
    let fits = first-fits _ _ c.requires in
    let same = ap length c.value.ensures.bytes in
    omega (arith, fits, same, c.args.self.now.within)

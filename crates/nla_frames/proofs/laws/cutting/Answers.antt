use Rattle.nla_frames.proofs.Bytes.{IsBytes-slice}
use Rattle.nla_frames.proofs.CuttingLaws.{cuts, cut-is}
use Rattle.nla_frames.proofs.laws.cutting.Goals as goal

pub returns-clause-cuts : goal.returns-clause-cuts
returns-clause-cuts c = cuts c.args.bytes.now (IsBytes-slice c.args.bytes.now c.type_inv.bytes)

pub returns-clause-only : goal.returns-clause-only
returns-clause-only c = cut-is c.args.bytes.now

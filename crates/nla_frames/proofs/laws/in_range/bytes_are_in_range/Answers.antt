use Rattle.nla_frames.proofs.Bytes.{IsBytes-slice}
use Rattle.nla_frames.proofs.laws.in_range.bytes_are_in_range.Goals as goal

pub returns : goal.returns
returns c = IsBytes-slice c.args.bytes.now c.type_inv.bytes

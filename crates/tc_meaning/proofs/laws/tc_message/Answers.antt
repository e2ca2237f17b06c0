use Rattle.std.proofs.Common.{arith}
use Rattle.tc_meaning.proofs.MessageTheorems.{wire_slice, tc_correspond}
use Rattle.tc_meaning.proofs.laws.tc_message.Goals as goal

pub returns : goal.returns
returns c = tc_correspond c.args.bytes.now (wire_slice c.args.bytes.now c.type_inv.bytes (omega arith))

use Rattle.std.proofs.Common.{arith}
use Rattle.tc_meaning.proofs.MessageTheorems.{wire_slice, action_correspond}
use Rattle.tc_meaning.proofs.laws.action_message.Goals as goal

pub returns : goal.returns
returns c = action_correspond c.args.bytes.now (wire_slice c.args.bytes.now c.type_inv.bytes (omega arith))

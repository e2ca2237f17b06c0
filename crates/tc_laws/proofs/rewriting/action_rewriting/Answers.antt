use Rattle.std.proofs.Common.{arith}
use Rattle.tc_meaning.proofs.MessageTheorems.{wire_slice}
use Rattle.tc_laws.proofs.RewritingLaws.{action-rewriting}
use Rattle.tc_laws.proofs.rewriting.action_rewriting.Goals as goal

pub returns : goal.returns
returns c = action-rewriting c.args.bytes.now (wire_slice c.args.bytes.now c.type_inv.bytes (omega arith))

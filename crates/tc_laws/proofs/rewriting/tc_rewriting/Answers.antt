use Rattle.std.proofs.Common.{arith}
use Rattle.tc_meaning.proofs.MessageTheorems.{wire_slice}
use Rattle.tc_laws.proofs.RewritingLaws.{tc-rewriting}
use Rattle.tc_laws.proofs.rewriting.tc_rewriting.Goals as goal

pub returns : goal.returns
returns c = tc-rewriting c.args.bytes.now (wire_slice c.args.bytes.now c.type_inv.bytes (omega arith))

use Rattle.std.proofs.Common.{arith}
use Rattle.nla_frames.specs.Codec.{IsWireBytes}
use Rattle.tc_meaning.proofs.MessageTheorems.{wire_slice}
use Rattle.tc_laws.proofs.RewritingLaws.{tc-written, tc-written_norm}
use Rattle.tc_laws.proofs.rewriting.tc_step.Goals as goal

wire : (c : goal.Start) → IsWireBytes c.args.bytes.now
wire c = wire_slice c.args.bytes.now c.type_inv.bytes (omega arith)

pub returns-clause-written : goal.returns-clause-written
returns-clause-written c = tc-written c.args.bytes.now (wire c)

pub returns-clause-written_norm : goal.returns-clause-written_norm
returns-clause-written_norm c = tc-written_norm c.args.bytes.now (wire c)

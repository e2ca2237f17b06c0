use Rattle.std.proofs.Common.{arith}
use Rattle.nla_frames.specs.Codec.{IsWireBytes}
use Rattle.nla_frames.specs.Reading.{keep}
use Rattle.tc_canon.specs.Layouts.{action_message_header}
use Rattle.tc_canon.specs.Tables.Messages.{action_message_attributes}
use Rattle.tc_canon.specs.Canonical.{CanonAct}
use Rattle.tc_laws.proofs.TrimLaws.{message_trims}
use Rattle.tc_meaning.proofs.MessageTheorems.{wire_slice, act_laws}
use Rattle.tc_laws.proofs.RewritingLaws.{act_next}
use Rattle.tc_laws.proofs.Settling.{next-read, canonical-next}
use Rattle.tc_laws.proofs.rewriting.action_step.Goals as goal

wire : (c : goal.Start) → IsWireBytes c.args.bytes.now
wire c = wire_slice c.args.bytes.now c.type_inv.bytes (omega arith)

pub returns-clause-reads : goal.returns-clause-reads
returns-clause-reads c = next-read keep keep action_message_header action_message_attributes CanonAct act_laws act_next c.args.bytes.now (wire c)

pub returns-clause-fits : goal.returns-clause-fits
returns-clause-fits c = act_next.fits

pub returns-clause-typed : goal.returns-clause-typed
returns-clause-typed c = act_next.typed

pub returns-clause-nuls : goal.returns-clause-nuls
returns-clause-nuls c = (message_trims action_message_attributes).left

pub returns-clause-norm : goal.returns-clause-norm
returns-clause-norm c = (message_trims action_message_attributes).twice

pub returns-clause-canonical : goal.returns-clause-canonical
returns-clause-canonical c = canonical-next keep keep action_message_header action_message_attributes CanonAct act_laws act_next c.args.bytes.now (wire c)

use Rattle.std.proofs.Common.{arith}
use Rattle.nla_frames.specs.Codec.{IsWireBytes}
use Rattle.nla_frames.specs.Reading.{keep}
use Rattle.tc_canon.specs.Layouts.{action_message_header}
use Rattle.tc_canon.specs.Tables.Messages.{action_message_attributes}
use Rattle.tc_canon.specs.Canonical.{CanonAct}
use Rattle.tc_meaning.proofs.MessageTheorems.{wire_slice, act_laws}
use Rattle.tc_laws.proofs.RewritingLaws.{act_next}
use Rattle.tc_laws.proofs.Settling.{same-norm}
use Rattle.tc_laws.proofs.rewriting.action_same_norm.Goals as goal

first : (c : goal.Start) → IsWireBytes c.args.first.now
first c = wire_slice c.args.first.now c.type_inv.first (omega arith)

second : (c : goal.Start) → IsWireBytes c.args.second.now
second c = wire_slice c.args.second.now c.type_inv.second (omega arith)

pub returns : goal.returns
returns c = same-norm keep keep action_message_header action_message_attributes CanonAct act_laws act_next c.args.first.now c.args.second.now (first c)
    (second c)

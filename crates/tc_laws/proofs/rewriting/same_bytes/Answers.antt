use Rattle.std.proofs.Common.{ap}
use Rattle.nla_frames.specs.Reading.{keep}
use Rattle.tc_canon.specs.Canonical.{CanonTc, CanonAct}
use Rattle.tc_canon.specs.Layouts.{tc_header, action_message_header}
use Rattle.tc_canon.specs.Tables.Messages.{attributes, action_message_attributes}
use Rattle.tc_meaning.specs.Own.{kind_of_frame, kind_of_attribute}
use Rattle.tc_meaning.specs.Whole.{tc_bytes, act_bytes}
use Rattle.tc_meaning.proofs.MessageTheorems.{equal, tc_laws, act_laws}
use Rattle.tc_laws.proofs.rewriting.same_bytes.Goals as goal

pub returns-clause-tc : goal.returns-clause-tc
returns-clause-tc c m n tm fm sm tn fn sn =
    (λ same. ap tc_bytes same, equal kind_of_frame kind_of_attribute tc_header attributes CanonTc tc_laws m n tm fm sm tn fn sn)

pub returns-clause-action : goal.returns-clause-action
returns-clause-action c m n tm fm sm tn fn sn =
    (λ same. ap act_bytes same, equal keep keep action_message_header action_message_attributes CanonAct act_laws m n tm fm sm tn fn sn)

use Rattle.tc_canon.specs.Tables.Messages.{action_message_attributes}
use Rattle.tc_values.proofs.Measures.{measured}
use Rattle.tc_action_messages.specs.ActionMessageAttribute.{attribute_body}
use Rattle.tc_action_messages.proofs.attribute.TcActionMessageAttributeNla.checked_len.Goals as goal

pub returns : goal.returns
returns g c = measured attribute_body action_message_attributes _ _ _ _ c.view.ensures c.checked_len.ensures

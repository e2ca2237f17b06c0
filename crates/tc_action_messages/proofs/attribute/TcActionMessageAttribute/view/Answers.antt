use Rattle.tc_canon.specs.Tables.Messages.{action_message_attributes}
use Rattle.tc_values.proofs.Rows.{shown_as}
use Rattle.tc_action_messages.specs.ActionMessageAttribute.{attribute_body}
use Rattle.tc_action_messages.proofs.Bodies.{is_attribute_body}
use Rattle.tc_action_messages.proofs.attribute.TcActionMessageAttribute.view.Goals as goal

pub returns : goal.returns
returns g c = shown_as attribute_body is_attribute_body action_message_attributes _ _ _ c.row.ensures.seen c.row.ensures.row

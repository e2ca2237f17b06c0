use Rattle.tc_canon.specs.Tables.Messages.{action_message_attributes}
use Rattle.tc_values.proofs.SameRows.{same_shown}
use Rattle.tc_action_messages.proofs.Bodies.{same_attribute_body}
use Rattle.tc_action_messages.proofs.attribute.TcActionMessageAttributePartialEq.eq.Goals as goal

pub returns : goal.returns
returns g c =
    same_shown same_attribute_body action_message_attributes _ _ _ _
    c.row.ensures.seen c.row.ensures.row c.row-2.ensures.seen c.row-2.ensures.row c.same_row.ensures

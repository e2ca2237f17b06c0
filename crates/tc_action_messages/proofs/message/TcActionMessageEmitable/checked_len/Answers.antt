use Rattle.tc_canon.specs.Layouts.{action_message_header}
use Rattle.tc_canon.specs.Tables.Messages.{action_message_attributes}
use Rattle.tc_action_messages.specs.ActionMessage.{action_message}
use Rattle.tc_laws.proofs.MessageBytes.{message_measured}
use Rattle.tc_action_messages.proofs.message.TcActionMessageEmitable.checked_len.Goals as goal

pub returns-in-Some : goal.returns-in-Some
returns-in-Some g c =
    let list = rw c.deref.ensures.value at c.in-Some.ensures in
    message_measured action_message_header action_message_attributes
    (action_message c.args.self.now) c.action_message_header_in_range.ensures c.in-Some.len _ list c.checked_add.ensures

use Rattle.tc_canon.specs.Layouts.{tc_header}
use Rattle.tc_canon.specs.Tables.Messages.{attributes}
use Rattle.tc_messages.specs.Message.{tc_message}
use Rattle.tc_laws.proofs.MessageBytes.{message_measured}
use Rattle.tc_messages.proofs.message.TcMessageEmitable.checked_len.Goals as goal

pub returns-in-Some : goal.returns-in-Some
returns-in-Some g c =
    let list = rw c.deref.ensures.value at c.in-Some.ensures in
    message_measured tc_header attributes (tc_message c.args.self.now) c.header_in_range.ensures c.in-Some.len _ list c.checked_add.ensures

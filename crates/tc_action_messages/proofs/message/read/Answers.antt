use Rattle.std.proofs.Common.{map}
use Rattle.std.proofs.lemmas.Result.{err_from_is_err_and}
use Rattle.nla_frames.specs.Reading.{keep}
use Rattle.tc_canon.specs.Layouts.{action_message_header}
use Rattle.tc_canon.specs.Tables.Messages.{action_message_attributes}
use Rattle.tc_records.specs.Actions.{action_message_header_scalars}
use Rattle.tc_action_messages.specs.ActionMessageAttribute.{action_message_attribute}
use Rattle.tc_meaning.proofs.MessageReading.{message_read, message_refused}
use Rattle.tc_action_messages.proofs.message.read.Goals as goal

pub returns-in_err-attributes : goal.returns-in_err-attributes
returns-in_err-attributes g c =
    let p = err_from_is_err_and c.from_residual-in_err-attributes.result c.from_residual-in_err-attributes.ensures.1 in
    rw (p.1, p.2) (message_refused keep action_message_header action_message_attributes c.args.bytes.now
    (action_message_header_scalars c.in_ok-header.header) c.in_ok-header.ensures c.in_err-attributes.field-0.0
    (rw c.after_header.ensures at c.in_err-attributes.ensures.exact))

pub returns : goal.returns
returns g c =
    message_read keep action_message_header action_message_attributes c.args.bytes.now
    (action_message_header_scalars c.in_ok-header.header) c.in_ok-header.ensures (map action_message_attribute c.in_ok-attributes.attributes.items)
    (rw c.after_header.ensures at c.in_ok-attributes.ensures.exact)

use Rattle.std.proofs.Common.{map}
use Rattle.std.proofs.lemmas.Result.{err_from_is_err_and}
use Rattle.tc_canon.specs.Layouts.{tc_header}
use Rattle.tc_canon.specs.Tables.Messages.{attributes}
use Rattle.tc_meaning.specs.Message.{kind_of_frame}
use Rattle.tc_meaning.proofs.MessageReading.{message_read, message_refused}
use Rattle.tc_records.specs.Header.{header_scalars}
use Rattle.tc_messages.specs.Attribute.{tc_attribute}
use Rattle.tc_messages.proofs.message.read.Goals as goal

pub returns-in_err-attributes : goal.returns-in_err-attributes
returns-in_err-attributes g c =
    let p = err_from_is_err_and c.from_residual-in_err-attributes.result c.from_residual-in_err-attributes.ensures.1 in
    rw (p.1, p.2) (message_refused kind_of_frame tc_header attributes c.args.bytes.now
    (header_scalars c.in_ok-header.header) c.in_ok-header.ensures c.in_err-attributes.field-0.0
    (rw c.after_header.ensures at c.in_err-attributes.ensures.exact))

pub returns : goal.returns
returns g c =
    message_read kind_of_frame tc_header attributes c.args.bytes.now (header_scalars c.in_ok-header.header) c.in_ok-header.ensures
    (map tc_attribute c.in_ok-attributes.field-0.0.items)
    (rw c.after_header.ensures at c.in_ok-attributes.ensures.exact)

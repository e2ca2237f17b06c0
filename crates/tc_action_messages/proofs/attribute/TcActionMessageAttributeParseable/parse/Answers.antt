use Rattle.std.proofs.Common.{[], sym, refl, ◌∙◌}
use Rattle.std.proofs.lemmas.Result.{err_from_is_err_and}
use Rattle.nla_frames.specs.Buffer.{frame_of}
use Rattle.tc_canon.specs.Tables.Messages.{action_message_attributes}
use Rattle.tc_values.proofs.Lists.{list_read, list_refused}
use Rattle.tc_actions.specs.Action.{an_action}
use Rattle.tc_action_messages.proofs.attribute.TcActionMessageAttributeParseable.parse.Goals as goal

pub returns-in_err-parse_list-in-1 : goal.returns-in_err-parse_list-in-1
returns-in_err-parse_list-in-1 g c =
    let p = err_from_is_err_and c.from_residual.result c.from_residual.ensures.1 in
    let one = sym c.kind.ensures ∙ c.in-1.is in
    let fault = rw c.value-value.ensures.bytes at c.in_err-parse_list-in-1.ensures.exact in
    rw (p.1, p.2) (list_refused action_message_attributes 1 an_action [] (frame_of c.args.buf.now) (rw one refl) _ fault)

pub returns-in_ok-parse_list-in-1 : goal.returns-in_ok-parse_list-in-1
returns-in_ok-parse_list-in-1 g c =
    let one = sym c.kind.ensures ∙ c.in-1.is in
    let list = rw c.value-value.ensures.bytes at c.in_ok-parse_list-in-1.ensures.exact in
    list_read action_message_attributes 1 an_action [] (frame_of c.args.buf.now) (rw one refl) _ list

use Rattle.forms_kinds.specs.Table.{tc_tables, action_message}
use Rattle.tc_meaning.specs.Whole.{act_bytes}
use Rattle.tc_meaning.proofs.MessageTheorems.{act_laws}
use Rattle.tc_action_messages.specs.ActionMessage.{action_message as seen}
use Rattle.tc_message_json.proofs.Same.{same_sent}
use Rattle.tc_message_json.proofs.laws.equal_action_messages.Goals as goal

pub returns : goal.returns
returns g c fits settled fits' settled' =
    let one = seen c.args.one.now in
    let other = seen c.args.other.now in
    let typed = c.is_settled.ensures.typed (c.is_settled.ensures.settled.1 settled) in
    let typed' = c.is_settled-2.ensures.typed (c.is_settled-2.ensures.settled.1 settled') in
    let bytes = c.equal_bytes.ensures fits settled fits' settled' in
    let sent = same_sent tc_tables action_message (act_bytes one) (act_bytes other)
    (act_laws.makes one typed fits).are_bytes (act_laws.makes other typed' fits').are_bytes in
    (λ e. sent.0 (bytes.0 e), λ e. bytes.1 (sent.1 e))

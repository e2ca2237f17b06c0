use Rattle.tc_meaning.specs.Equal.{message_decides}
use Rattle.tc_action_messages.specs.ActionMessage.{action_message}
use Rattle.tc_action_messages.proofs.laws.equal_bytes.Goals as goal

pub returns : goal.returns
returns g c fits settled fits' settled' =
    let one = c.args.one.now in
    let other = c.args.other.now in
    let typed = c.is_settled.ensures.typed (c.is_settled.ensures.settled.1 settled) in
    let typed' = c.is_settled-2.ensures.typed (c.is_settled-2.ensures.settled.1 settled') in
    let seen = message_decides (action_message one) (action_message other) in
    let bytes = c.same_bytes.ensures.action (action_message one) (action_message other) typed fits settled typed' fits' settled' in
    (λ e. bytes.0 (seen.0 e), λ e. seen.1 (bytes.1 e))

use Rattle.std.proofs.Common.{◌&&◌, sym, ap, ◌∙◌}
use Rattle.std.specs.Cmp.Derive.Mapped.{pointwise-map}
use Rattle.std.specs.Cmp.Lexicographic.{pointwise}
use Rattle.tc_meaning.specs.Equal.{same_attribute}
use Rattle.tc_action_messages.specs.ActionMessage.{action_message}
use Rattle.tc_action_messages.specs.ActionMessageAttribute.{action_message_attribute}
use Rattle.tc_action_messages.proofs.message.TcActionMessagePartialEq.eq.Goals as goal

pub returns-then-eq : goal.returns-then-eq
returns-then-eq g c =
    let one = c.args.self.now in
    let other = c.args.other.now in
    c.eq-then-eq.ensures
    ∙ sym (pointwise-map action_message_attribute same_attribute one.attributes.items other.attributes.items)
    ∙ ap (λ b. b && pointwise same_attribute (action_message one).body (action_message other).body) (sym (sym c.eq.ensures ∙ c.if-eq.true))

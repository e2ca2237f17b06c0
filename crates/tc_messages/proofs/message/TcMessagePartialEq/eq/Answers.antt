use Rattle.std.proofs.Common.{◌&&◌, sym, ap, ◌∙◌}
use Rattle.std.specs.Cmp.Derive.Mapped.{pointwise-map}
use Rattle.std.specs.Cmp.Lexicographic.{pointwise}
use Rattle.tc_meaning.specs.Equal.{same_attribute}
use Rattle.tc_messages.specs.Message.{tc_message}
use Rattle.tc_messages.specs.Attribute.{tc_attribute}
use Rattle.tc_messages.proofs.message.TcMessagePartialEq.eq.Goals as goal

pub returns-then-eq : goal.returns-then-eq
returns-then-eq g c =
    let one = c.args.self.now in
    let other = c.args.other.now in
    c.eq-then-eq.ensures
    ∙ sym (pointwise-map tc_attribute same_attribute one.attributes.items other.attributes.items)
    ∙ ap (λ b. b && pointwise same_attribute (tc_message one).body (tc_message other).body) (sym (sym c.eq.ensures ∙ c.if-eq.true))

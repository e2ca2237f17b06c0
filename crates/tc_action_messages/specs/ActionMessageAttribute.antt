-- The abstract value of an attribute of an action message.
use Rattle.std.specs.Prelude.{◌≡◌, ℕ, List, map, string_bytes}
use Rattle.nla_frames.specs.DefaultNla.{kept_frame}
use Rattle.tc_canon.specs.Descriptor.{pair}
use Rattle.tc_meaning.specs.Tree.{Attribute, known, other, number, is_bytes, record_of, items, attributes_of}
use Rattle.tc_meaning.specs.Content.{pair_codec}
use Rattle.tc_values.specs.Inner.{Inner}
use Rattle.tc_values.specs.Bodies.{items_of, either}
use Rattle.tc_values.specs.declared.body.Items.{Items}
use Rattle.tc_values.specs.declared.body.Either.{Either}
use Rattle.tc_laws.specs.Loose.{Part, part_nuls, greatest}
use Rattle.tc_actions.specs.Action.{an_action, tc_action}
use Rattle.tc_actions.specs.declared.actions.action.TcAction.{TcAction}
use Rattle.tc_action_messages.specs.Flags.{flags_words, flags_codec}
use Rattle.tc_action_messages.specs.declared.attribute.Pair.{Pair}
use Rattle.tc_action_messages.specs.declared.attribute.TcActionMessageAttribute.{TcActionMessageAttribute}
use Rattle.tc_action_messages.specs.declared.attribute.TcActionMessageAttribute.TheVariants.{Actions, Flags, RootCount, RootTimeDelta, RootExtWarnMsg, Other}

abbrev pub action_message_attribute : {A : Type 0} → TcActionMessageAttribute A → Attribute
action_message_attribute (Actions actions) = known 1 (items (attributes_of (map tc_action actions.items)))
action_message_attribute (Flags flags) = known 2 (record_of (flags_words flags))
action_message_attribute (RootCount n) = known 3 (number n)
action_message_attribute (RootTimeDelta n) = known 4 (number n)
action_message_attribute (RootExtWarnMsg text) = known 5 (is_bytes (string_bytes text))
action_message_attribute (Other nla) = other (kept_frame nla).word (kept_frame nla).value

-- two attributes hold the same: actions that are equal one by one, the same text; one that is kept raw the same word
-- and payload; all others are equal
abbrev pub SameActionMessageAttribute : {A : Type 0} → TcActionMessageAttribute A → TcActionMessageAttribute A → Type 0
SameActionMessageAttribute (Actions v) (Actions w) = map tc_action v.items ≡ map tc_action w.items
SameActionMessageAttribute (RootExtWarnMsg s) (RootExtWarnMsg t) = string_bytes s ≡ string_bytes t
SameActionMessageAttribute (Other x) (Other y) = kept_frame x ≡ kept_frame y
SameActionMessageAttribute a b = a ≡ b

-- the longest run of NULs at the end of one of these parts
abbrev pub most_nuls : List Part → ℕ
most_nuls parts = greatest (map part_nuls parts)

-- flags with a selector, as the value of an attribute
abbrev pub pair_part : Inner Pair
pair_part = record {
  class = λ p. pair;
  content = λ p. record_of (flags_words p.0.now);
  bytes = λ p. pair_codec.write (flags_words p.0.now);
  Fits = λ p. flags_codec.Fits (flags_words p.0.now);
  Typed = λ p. pair_codec.Typed (flags_words p.0.now);
  Settled = λ kind p. pair_codec.Settled kind (flags_words p.0.now);
}

-- nested values of the attributes
abbrev pub attribute_body : {A : Type 0} → Inner (Either (Items (TcAction A)) Pair)
attribute_body = either (items_of tc_action an_action) pair_part

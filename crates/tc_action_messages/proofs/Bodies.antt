-- The nested values of attributes are those of their classes.
use Rattle.std.proofs.Common.{Bool, refl}
use Rattle.tc_meaning.specs.Equal.{same_scalars}
use Rattle.tc_values.specs.Inner.{IsInner}
use Rattle.tc_values.specs.Bodies.{same_of_either}
use Rattle.tc_values.specs.Same.{IsSame}
use Rattle.tc_values.proofs.Bodies.{are_items, is_either}
use Rattle.tc_values.proofs.SameRows.{same_list, same_items, same_either}
use Rattle.tc_actions.specs.Action.{an_action, tc_action}
use Rattle.tc_action_messages.specs.Flags.{flags_words}
use Rattle.tc_action_messages.specs.declared.attribute.Pair.{Pair}
use Rattle.tc_action_messages.specs.ActionMessageAttribute.{pair_part, attribute_body}

is_pair : IsInner pair_part
is_pair = record {
  bytes = λ p. refl;
  fits = λ p. (λ f. f, λ f. f);
  typed = λ p t. (refl, t);
  settled = λ kind p. (λ s. s, λ s. s);
}

pub is_attribute_body : {A : Type 0} → IsInner (attribute_body {A = A})
is_attribute_body = is_either _ _ (are_items tc_action an_action) is_pair

-- ---- they are compared by their abstract values

abbrev same_pair : Pair → Pair → Bool
same_pair p q = same_scalars (flags_words p.0.now) (flags_words q.0.now)

are_same_pairs : IsSame pair_part same_pair
are_same_pairs = record { tells = λ p q e. refl; nested = λ p. refl }

pub same_attribute_body : {A : Type 0} → IsSame (attribute_body {A = A}) (same_of_either (same_list tc_action) same_pair)
same_attribute_body = same_either (λ l r e. absurd (cc e)) (same_items tc_action an_action) are_same_pairs

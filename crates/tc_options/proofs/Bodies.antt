-- The nested values of options are those of their classes.
use Rattle.std.proofs.Common.{Bool, refl}
use Rattle.std.specs.Ordering.{on}
use Rattle.tc_canon.specs.Descriptor.{selector}
use Rattle.tc_meaning.specs.Content.{a_selector, selector_codec}
use Rattle.tc_meaning.specs.Equal.{same_selector}
use Rattle.tc_values.specs.Inner.{IsInner}
use Rattle.tc_values.specs.Bodies.{same_of_either}
use Rattle.tc_values.specs.Same.{IsSame}
use Rattle.tc_values.specs.declared.body.Record.{Record}
use Rattle.tc_values.proofs.Bodies.{are_items, is_part, is_either}
use Rattle.tc_values.proofs.SameRows.{same_list, same_items, same_part, same_either}
use Rattle.tc_records.specs.declared.filters.u32_selector.TcU32Selector.{TcU32Selector}
use Rattle.tc_records.specs.Selector.{selector_of}
use Rattle.tc_actions.specs.Action.{tc_action, an_action}
use Rattle.tc_options.specs.MatchAll.{action_list}
use Rattle.tc_options.specs.U32.{selector_part, u32_body}

pub is_action_list : {A : Type 0} → IsInner (action_list {A = A})
is_action_list = are_items tc_action an_action

is_selector : {A : Type 0} → IsInner (selector_part {A = A})
is_selector = is_part selector_of a_selector selector_codec selector refl (λ x. refl)

pub is_u32_body : {A : Type 0} → IsInner (u32_body {A = A})
is_u32_body = is_either selector_part action_list is_selector is_action_list

-- ---- they are compared by their abstract values

pub same_action_list : {A : Type 0} → IsSame (action_list {A = A}) (same_list tc_action)
same_action_list = same_items tc_action an_action

abbrev same_selectors : {A : Type 0} → Record (TcU32Selector A) → Record (TcU32Selector A) → Bool
same_selectors r s = on selector_of same_selector r.0.now s.0.now

are_same_selectors : {A : Type 0} → IsSame (selector_part {A = A}) same_selectors
are_same_selectors = same_part selector_of a_selector selector_codec selector (on selector_of same_selector) refl (λ r s. refl)

pub same_u32_body : {A : Type 0} → IsSame (u32_body {A = A}) (same_of_either same_selectors (same_list tc_action))
same_u32_body = same_either (λ l r e. absurd (cc e)) are_same_selectors same_action_list

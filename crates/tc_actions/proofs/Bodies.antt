-- The nested values of an action's attributes are those of their classes.
use Rattle.tc_canon.specs.Descriptor.{table, by_kind}
use Rattle.tc_canon.specs.Tables.Statistics.{stats2}
use Rattle.tc_canon.specs.Tables.Actions.{action_option_kinds}
use Rattle.tc_values.specs.Inner.{IsInner}
use Rattle.tc_values.specs.Bodies.{same_of_either}
use Rattle.tc_values.specs.Same.{IsSame}
use Rattle.tc_values.proofs.Bodies.{are_items, is_either}
use Rattle.tc_values.proofs.SameRows.{same_list, same_items, same_either}
use Rattle.tc_actions.specs.Stats2.{tc_stats2}
use Rattle.tc_actions.specs.ActionOption.{action_option}
use Rattle.tc_actions.specs.ActionAttribute.{attribute_body}

pub is_attribute_body : {A : Type 0} → IsInner (attribute_body {A = A})
is_attribute_body = is_either _ _ (are_items action_option (by_kind action_option_kinds)) (are_items tc_stats2 (table stats2))

-- ---- they are compared by their abstract values

pub same_attribute_body : {A : Type 0} → IsSame (attribute_body {A = A}) (same_of_either (same_list action_option) (same_list tc_stats2))
same_attribute_body = same_either (λ l r e. absurd (cc e)) (same_items action_option (by_kind action_option_kinds)) (same_items tc_stats2 (table stats2))

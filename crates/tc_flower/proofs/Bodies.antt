-- The nested values of the options are those of their classes.
use Rattle.tc_canon.specs.Descriptor.{table}
use Rattle.tc_canon.specs.Tables.Flower.{mpls_options}
use Rattle.tc_values.specs.Inner.{IsInner}
use Rattle.tc_values.specs.Bodies.{items_of, same_of_either}
use Rattle.tc_values.specs.Same.{IsSame}
use Rattle.tc_values.proofs.Bodies.{are_items, is_either}
use Rattle.tc_values.proofs.SameRows.{same_list, same_items, same_either}
use Rattle.tc_actions.specs.Action.{tc_action, an_action}
use Rattle.tc_flower.specs.Mpls.{mpls_option}
use Rattle.tc_flower.specs.Flower.{flower_lists}

pub are_flower_lists : {A : Type 0} → IsInner (flower_lists {A = A})
are_flower_lists = is_either (items_of tc_action an_action) (items_of mpls_option (table mpls_options)) (are_items tc_action an_action)
    (are_items mpls_option (table mpls_options))

-- ---- lists are compared by their abstract values

pub same_flower_lists : {A : Type 0} → IsSame (flower_lists {A = A}) (same_of_either (same_list tc_action) (same_list mpls_option))
same_flower_lists = same_either (λ l r e. absurd (cc e)) (same_items tc_action an_action) (same_items mpls_option (table mpls_options))

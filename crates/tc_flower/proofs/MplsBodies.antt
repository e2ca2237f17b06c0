-- The nested values of options of MPLS are those of their classes.
use Rattle.tc_canon.specs.Descriptor.{table}
use Rattle.tc_canon.specs.Tables.Flower.{lse_options}
use Rattle.tc_values.specs.Inner.{IsInner}
use Rattle.tc_values.specs.Same.{IsSame}
use Rattle.tc_values.proofs.Bodies.{are_items}
use Rattle.tc_values.proofs.SameRows.{same_list, same_items}
use Rattle.tc_flower.specs.Mpls.{lse_option, lse_lists}

pub are_lse_lists : {A : Type 0} → IsInner (lse_lists {A = A})
are_lse_lists = are_items lse_option (table lse_options)

-- ---- lists are compared by their abstract values

pub same_lse_lists : {A : Type 0} → IsSame (lse_lists {A = A}) (same_list lse_option)
same_lse_lists = same_items lse_option (table lse_options)

-- A raw attribute is written whole, for any rows of the table.
use Rattle.std.proofs.Common.{ℕ, List, refl}
use Rattle.tc_canon.specs.Descriptor.{Rows}
use Rattle.tc_meaning.specs.Tree.{other}
use Rattle.tc_values.specs.Bodies.{nothing}
use Rattle.tc_values.specs.Row.{ShownAs}
use Rattle.tc_values.specs.declared.body.NoBody.{NoBody}
use Rattle.tc_values.specs.declared.value.Value.{Value}
use Rattle.tc_values.specs.declared.value.Value.TheVariants.{Kept}
use Rattle.tc_values.proofs.Bodies.{is_nothing}
use Rattle.tc_values.proofs.Rows.{shown_as}

abbrev kept_value : List ℕ → Value NoBody
kept_value v = Kept (record { ref_ptr = (0, 0); now = v })

pub kept_shown : (rows : Rows) (word : ℕ) (v : List ℕ) → ShownAs nothing rows (other word v) word (kept_value v)
kept_shown rows word v = shown_as nothing is_nothing rows word (other word v) (kept_value v) refl tt

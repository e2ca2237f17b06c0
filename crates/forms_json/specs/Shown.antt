-- The JSON of bytes in a form, with a table, under a kind. Bytes that don't follow their form are raw.
use Rattle.std.specs.Prelude.{List, [], false, if◌then◌else◌, length, suc, true, zero, ℕ, ◌&&◌}
use Rattle.serde_json.specs.Data.{Data, array, object}
use Rattle.forms_attributes.specs.Attributes.{attribute, frames, indexed, layered}
use Rattle.forms_values.specs.Choices.{by_choice, chosen}
use Rattle.forms_attributes.specs.Kinds.{own_kind}
use Rattle.forms_values.specs.Places.{choices_of, fields_of, form_of, layer_of, part_at, rows_under}
use Rattle.forms_values.specs.Raw.{raw}
use Rattle.forms_values.specs.Records.{are_enough, elements_of, members, names_distinct}
use Rattle.forms_values.specs.Tables.{Table}
use Rattle.forms_values.specs.Values.{plain_shown}
use Rattle.forms_values.specs.Widths.{deepest, fixed}
use Rattle.forms_values.specs.declared.form.Form.{Form}
use Rattle.forms_values.specs.declared.form.Form.TheVariants as form

-- `Inner` shows what is within
module _ (table : Table) (Inner : List ℕ → Form → List ℕ → Data) where
  -- the JSON of a form, by the part at its place
  abbrev pub shown : List ℕ → Form → List ℕ → Data
  shown kind (form.Record i) b =
      if names_distinct (fields_of (part_at table i)) && are_enough table (length b) (fields_of (part_at table i))
      then object (members table (Inner kind) (fields_of (part_at table i)) b) else raw b
  shown kind (form.Array i) b = array (elements_of (Inner kind) (form_of i (part_at table i)) (fixed table (form_of i (part_at table i))) b)
  shown kind (form.Times n i) b = array (elements_of (Inner kind) (form_of i (part_at table i)) (fixed table (form_of i (part_at table i))) b)
  shown kind (form.List i) b =
      array (frames (λ k c. layered (layer_of (part_at table i)) (attribute Inner (rows_under table i k) false k c)) false (length b) kind b)
  shown kind (form.InForce i) b = array (frames (λ k c. attribute Inner (rows_under table i k) true k c) true (length b) kind b)
  shown kind (form.Own i) b = array (frames (λ k c. attribute Inner (rows_under table i k) true k c) false (length b) (own_kind (length b) b) b)
  shown kind (form.Indexed i) b =
      array (frames (λ k c. indexed c (Inner k (form_of i (part_at table i)) c.value)) false (length b) kind b)
  shown kind (form.Choice i) b = by_choice (Inner kind) b (chosen (choices_of (part_at table i)) b)
  shown kind f b = plain_shown table f b

-- forms nest this deep; deeper bytes are raw
abbrev pub show : Table → ℕ → List ℕ → Form → List ℕ → Data
show table zero kind f b = raw b
show table (suc n) kind f b = shown table (show table n) kind f b

-- the JSON, at the greatest depth, under no kind
unfoldable pub shown_of : Table → Form → List ℕ → Data
shown_of table f b = show table deepest [] f b

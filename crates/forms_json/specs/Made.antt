-- The bytes of JSON in a form, with a table, under a kind.
use Rattle.std.specs.Prelude.{List, Option, [], false, option_and_then, suc, true, zero, ℕ}
use Rattle.serde_json.specs.Data.{Data}
use Rattle.serde_json.specs.Find.{as_array}
use Rattle.forms_attributes.specs.AttributesMade.{each_under, indexed_made, kinded_made, layered_made}
use Rattle.forms_values.specs.Choices.{by_choice_made}
use Rattle.forms_attributes.specs.Kinds.{own_kind_named}
use Rattle.forms_values.specs.Places.{choices_of, fields_of, form_of, part_at}
use Rattle.forms_values.specs.Raw.{or_raw, raw_of}
use Rattle.forms_values.specs.Records.{each_made, fields_made}
use Rattle.forms_values.specs.Tables.{Table}
use Rattle.forms_values.specs.Values.{plain_made}
use Rattle.forms_values.specs.Widths.{deepest}
use Rattle.forms_values.specs.declared.form.Form.{Form}
use Rattle.forms_values.specs.declared.form.Form.TheVariants as form

-- `Inner` makes what is within
module _ (table : Table) (Inner : List ℕ → Form → Data → Option (List ℕ)) where
  -- the bytes of a form, by the part at its place
  abbrev pub in_form : List ℕ → Form → Data → Option (List ℕ)
  in_form kind (form.Record i) d = fields_made table (Inner kind) (fields_of (part_at table i)) d
  in_form kind (form.Array i) d = option_and_then (each_made (Inner kind (form_of i (part_at table i)))) (as_array d)
  in_form kind (form.Times n i) d = option_and_then (each_made (Inner kind (form_of i (part_at table i)))) (as_array d)
  in_form kind (form.List i) d = option_and_then (each_under (layered_made table Inner i) false kind) (as_array d)
  in_form kind (form.InForce i) d = option_and_then (each_under (kinded_made table Inner i) true kind) (as_array d)
  in_form kind (form.Own i) d = option_and_then (λ ds. each_under (kinded_made table Inner i) false (own_kind_named ds) ds) (as_array d)
  in_form kind (form.Indexed i) d = option_and_then (each_under (indexed_made table Inner i) false kind) (as_array d)
  in_form kind (form.Choice i) d = by_choice_made (Inner kind) (choices_of (part_at table i)) d
  in_form kind f d = plain_made table f d

-- raw bytes are made at any depth
abbrev pub make : Table → ℕ → List ℕ → Form → Data → Option (List ℕ)
make table zero kind f d = raw_of d
make table (suc n) kind f d = or_raw (raw_of d) (in_form table (make table n) kind f d)

-- the bytes, at the greatest depth, under no kind
unfoldable pub made_of : Table → Form → Data → Option (List ℕ)
made_of table f d = make table deepest [] f d

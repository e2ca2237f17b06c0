-- The part of a table at a place. A place with a part of another sort has no names, no fields, no rows, no choices and the form of bytes.
use Rattle.std.specs.Prelude.{List, [], bytes_eq, if◌then◌else◌, ℕ, ◌++◌, ◌∷◌}
use Rattle.forms_values.specs.Tables.{Choice, Choices, Field, Fields, KindRows, Kinds, Name, Names, One, Part, Row, Rows, Table}
use Rattle.forms_values.specs.declared.form.Form.{Form}
use Rattle.forms_values.specs.declared.form.Form.TheVariants as form

abbrev pub part_at : Table → ℕ → Part
part_at table i = table i

abbrev pub names_of : Part → List Name
names_of (Names ns) = ns
names_of p = []

abbrev pub fields_of : Part → List Field
fields_of (Fields fs) = fs
fields_of p = []

abbrev pub rows_of : Part → List Row
rows_of (Rows layer rs) = rs
rows_of p = []

abbrev pub layer_of : Part → List ℕ
layer_of (Rows layer rs) = layer
layer_of p = []

abbrev pub choices_of : Part → List Choice
choices_of (Choices cs) = cs
choices_of p = []

-- the form at a place
abbrev pub form_of : ℕ → Part → Form
form_of i (One f) = f
form_of i (Names ns) = form.Hex
form_of i (Fields fs) = form.Record i
form_of i (Rows layer rs) = form.List i
form_of i (Kinds common others ks) = form.List i
form_of i (Choices cs) = form.Choice i

-- ---- the rows of a list

-- the place of the rows of a kind, or else this one
abbrev pub kind_place : List ℕ → ℕ → List KindRows → ℕ
kind_place kind others [] = others
kind_place kind others (x ∷ xs) = if bytes_eq x.kind kind then x.rows else kind_place kind others xs

-- the rows of a list under a kind; if they depend on it, first the rows of the kind, then the rows of every kind
abbrev pub rows_under_part : Table → List ℕ → Part → List Row
rows_under_part table kind (Rows layer rs) = rs
rows_under_part table kind (Kinds common others ks) = rows_of (part_at table (kind_place kind others ks)) ++ rows_of (part_at table common)
rows_under_part table kind p = []

abbrev pub rows_under : Table → ℕ → List ℕ → List Row
rows_under table i kind = rows_under_part table kind (part_at table i)

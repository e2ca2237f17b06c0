-- The number of bytes of a form, if it is fixed.
use Rattle.std.specs.Prelude.{List, None, Option, Some, [], if◌then◌else◌, nat_lt, option_and_then, suc, zero, ℕ, ◌*◌, ◌+◌, ◌^◌, ◌∷◌}
use Rattle.forms_values.specs.Places.{fields_of, form_of, part_at}
use Rattle.forms_values.specs.Tables.{Field, Table}
use Rattle.forms_values.specs.declared.form.Form.{Form}
use Rattle.forms_values.specs.declared.form.Number.{Number}
use Rattle.forms_values.specs.declared.form.Number.TheVariants.{I16, I32, I64, I8, U16, U16Be, U32, U32Be, U64, U64Be, U8}
use Rattle.forms_values.specs.declared.form.Form.TheVariants as form

-- the width of a number
abbrev pub number_width : Number → ℕ
number_width U8 = 1
number_width U16 = 2
number_width U32 = 4
number_width U64 = 8
number_width I8 = 1
number_width I16 = 2
number_width I32 = 4
number_width I64 = 8
number_width U16Be = 2
number_width U32Be = 4
number_width U64Be = 8

-- what a machine can count
abbrev pub counted : ℕ → Option ℕ
counted n = if nat_lt n (2 ^ 64) then Some n else None

-- a sum that a machine can count
abbrev pub plus : Option ℕ → Option ℕ → Option ℕ
plus (Some a) (Some b) = counted (a + b)
plus a b = None

-- the width of fields, after n bytes
abbrev pub fields_width : (Form → Option ℕ) → ℕ → List Field → Option ℕ
fields_width inner before [] = Some before
fields_width inner before (f ∷ fs) = option_and_then (λ t. fields_width inner t fs) (plus (Some before) (inner f.form))

-- the width of a form, if `inner` is the width of those within
abbrev pub width_by : (Form → Option ℕ) → Table → Form → Option ℕ
width_by inner table (form.Number k) = Some (number_width k)
width_by inner table (form.Named k i) = Some (number_width k)
width_by inner table form.Handle = Some 4
width_by inner table form.Flag = Some 0
width_by inner table form.Truth = Some 1
width_by inner table (form.Bytes n) = Some n
width_by inner table (form.Pad n) = Some n
width_by inner table form.Mac = Some 6
width_by inner table form.Ipv4 = Some 4
width_by inner table form.Ipv6 = Some 16
width_by inner table (form.Record i) = fields_width inner 0 (fields_of (part_at table i))
width_by inner table (form.Times n i) = option_and_then (λ w. counted (n * w)) (inner (form_of i (part_at table i)))
width_by inner table f = None

-- records and elements nest at most this deep
abbrev pub width : ℕ → Table → Form → Option ℕ
width zero table f = None
width (suc n) table f = width_by (width n table) table f

-- the depth to which forms nest in a table
abbrev pub deepest : ℕ
deepest = 16

-- the width at this depth; unfoldable, so that it isn't computed level by level
unfoldable pub fixed : Table → Form → Option ℕ
fixed table f = width deepest table f

-- the width of a field
abbrev pub field_width : Table → Field → Option ℕ
field_width table f = fixed table f.form

-- Tables: a part at each place. The code's parts have references to texts and lists; these have the texts and lists.
use Rattle.std.specs.Borrow.{Bor}
use Rattle.std.specs.Prelude.{List, Option, map, ℕ}
use Rattle.forms_values.specs.declared.form.ChoiceOf.{ChoiceOf}
use Rattle.forms_values.specs.declared.form.FieldOf.{FieldOf}
use Rattle.forms_values.specs.declared.form.Form.{Form}
use Rattle.forms_values.specs.declared.form.KindRowsOf.{KindRowsOf}
use Rattle.forms_values.specs.declared.form.NameOf.{NameOf}
use Rattle.forms_values.specs.declared.form.PartOf.{PartOf}
use Rattle.forms_values.specs.declared.form.RowOf.{RowOf}
use Rattle.forms_values.specs.declared.form.Form.TheVariants as form
use Rattle.forms_values.specs.declared.form.PartOf.TheVariants as code

pub record Name : Type 0 where
  pub number : ℕ
  pub name : List ℕ

pub record Field : Type 0 where
  pub name : List ℕ
  pub form : Form

pub record Row : Type 0 where
  pub word : ℕ
  pub name : List ℕ
  pub form : Form

pub record KindRows : Type 0 where
  pub kind : List ℕ
  pub rows : ℕ

pub record Choice : Type 0 where
  pub name : List ℕ
  pub prefix : List ℕ
  pub len : Option ℕ
  pub form : Form

pub data Part : Type 0 where
  One : Form → Part
  Names : List Name → Part
  Fields : List Field → Part
  Rows : List ℕ → List Row → Part
  Kinds : ℕ → ℕ → List KindRows → Part
  Choices : List Choice → Part

-- a table has a part at each place
abbrev pub Table : Type 0
Table = ℕ → Part

-- a table of nothing but bytes
abbrev pub no_table : Table
no_table i = One form.Hex

-- ---- the code's values

abbrev pub CodeName : Type 0
CodeName = NameOf (Bor (List ℕ))

abbrev pub CodeField : Type 0
CodeField = FieldOf (Bor (List ℕ))

abbrev pub CodeRow : Type 0
CodeRow = RowOf (Bor (List ℕ))

abbrev pub CodeKindRows : Type 0
CodeKindRows = KindRowsOf (Bor (List ℕ))

abbrev pub CodeChoice : Type 0
CodeChoice = ChoiceOf (Bor (List ℕ)) (Bor (List ℕ))

abbrev pub CodePart : Type 0
CodePart = PartOf (Bor (List ℕ)) (Bor (List CodeName)) (Bor (List CodeField)) (Bor (List CodeRow)) (Bor (List CodeKindRows)) (Bor (List CodeChoice))

abbrev pub name_view : CodeName → Name
name_view x = record { number = x.number; name = x.name.now }

abbrev pub field_view : CodeField → Field
field_view f = record { name = f.name.now; form = f.form }

abbrev pub row_view : CodeRow → Row
row_view r = record { word = r.word; name = r.name.now; form = r.form }

abbrev pub kind_rows_view : CodeKindRows → KindRows
kind_rows_view k = record { kind = k.kind.now; rows = k.rows }

abbrev pub choice_view : CodeChoice → Choice
choice_view c = record { name = c.name.now; prefix = c.prefix.now; len = c.len; form = c.form }

abbrev pub names_view : List CodeName → List Name
names_view xs = map name_view xs

abbrev pub fields_view : List CodeField → List Field
fields_view xs = map field_view xs

abbrev pub rows_view : List CodeRow → List Row
rows_view xs = map row_view xs

abbrev pub kinds_view : List CodeKindRows → List KindRows
kinds_view xs = map kind_rows_view xs

abbrev pub choices_view : List CodeChoice → List Choice
choices_view xs = map choice_view xs

abbrev pub part_view : CodePart → Part
part_view (code.One f) = One f
part_view (code.Names xs) = Names (names_view xs.now)
part_view (code.Fields xs) = Fields (fields_view xs.now)
part_view (code.Rows layer xs) = Rows layer.now (rows_view xs.now)
part_view (code.Kinds common others xs) = Kinds common others (kinds_view xs.now)
part_view (code.Choices xs) = Choices (choices_view xs.now)

-- ---- the same values in a constant of the code, where a reference is another type

abbrev pub Const : Type 0 → Type 0
Const T = record { now : T }

abbrev pub ConstName : Type 0
ConstName = NameOf (Const (List ℕ))

abbrev pub ConstField : Type 0
ConstField = FieldOf (Const (List ℕ))

abbrev pub ConstRow : Type 0
ConstRow = RowOf (Const (List ℕ))

abbrev pub ConstKindRows : Type 0
ConstKindRows = KindRowsOf (Const (List ℕ))

abbrev pub ConstChoice : Type 0
ConstChoice = ChoiceOf (Const (List ℕ)) (Const (List ℕ))

abbrev pub ConstPart : Type 0
ConstPart =
    PartOf (Const (List ℕ)) (Const (List ConstName)) (Const (List ConstField)) (Const (List ConstRow)) (Const (List ConstKindRows)) (Const (List ConstChoice))

abbrev pub const_name_view : ConstName → Name
const_name_view x = record { number = x.number; name = x.name.now }

abbrev pub const_field_view : ConstField → Field
const_field_view f = record { name = f.name.now; form = f.form }

abbrev pub const_row_view : ConstRow → Row
const_row_view r = record { word = r.word; name = r.name.now; form = r.form }

abbrev pub const_kind_rows_view : ConstKindRows → KindRows
const_kind_rows_view k = record { kind = k.kind.now; rows = k.rows }

abbrev pub const_choice_view : ConstChoice → Choice
const_choice_view c = record { name = c.name.now; prefix = c.prefix.now; len = c.len; form = c.form }

abbrev pub const_part_view : ConstPart → Part
const_part_view (code.One f) = One f
const_part_view (code.Names xs) = Names (map const_name_view xs.now)
const_part_view (code.Fields xs) = Fields (map const_field_view xs.now)
const_part_view (code.Rows layer xs) = Rows layer.now (map const_row_view xs.now)
const_part_view (code.Kinds common others xs) = Kinds common others (map const_kind_rows_view xs.now)
const_part_view (code.Choices xs) = Choices (map const_choice_view xs.now)

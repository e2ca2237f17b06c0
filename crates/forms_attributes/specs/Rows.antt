-- Rows of a list of attributes, by type and by name.
use Rattle.std.specs.Prelude.{Bool, List, None, Option, Some, bytes_eq, if◌then◌else◌, not, option_and_then, ℕ, ◌%◌, ◌&&◌, ◌==◌, ◌^◌}
use Rattle.forms_values.specs.Names.{is_reserved}
use Rattle.forms_values.specs.Search.{first}
use Rattle.forms_values.specs.Tables.{Row}

-- the attribute type in an nla_type, without the two flags
abbrev pub type_of : ℕ → ℕ
type_of word = word % 2 ^ 14

-- a row counts unless its name is reserved
abbrev pub counts : Row → Bool
counts r = not (is_reserved r.name)

-- a row that counts, of this type, whatever the flags
abbrev pub of_type : ℕ → Row → Bool
of_type word r = counts r && type_of r.word == type_of word

-- a row that counts, of this name
abbrev pub of_name : List ℕ → Row → Bool
of_name name r = counts r && bytes_eq r.name name

-- the row, if it is of this type
abbrev pub row_if : ℕ → Row → Option Row
row_if word r = if type_of r.word == type_of word then Some r else None

-- the first row of a type, if it is the first of its name too
abbrev pub shown_row : List Row → ℕ → Option Row
shown_row rows word = option_and_then (row_if word) (option_and_then (λ r. first (of_name r.name) rows) (first (of_type word) rows))

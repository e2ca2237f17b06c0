-- The rows of a table whose values are checked by their length only.
use Rattle.std.specs.Prelude.{ℕ, List, [], ◌∷◌, ◌==◌, Option, Some, None, if◌then◌else◌}
use Rattle.tc_canon.specs.Descriptor.{Class, le, be, array, Rows, others, types, unread, options, is_within}

-- the length of a number, an address or an array in bytes
abbrev pub width_of_class : Class → Option ℕ
width_of_class (le n) = Some n
width_of_class (be n) = Some n
width_of_class (array n) = Some n
width_of_class _ = None

-- the length of a value of this type, if it is one of these and is written without flags
unfoldable pub width_at : Rows → ℕ → Option ℕ
width_at others n = None
width_at (types first last flags class rows) n = if is_within first last n then (if flags == 0 then width_of_class class else None) else width_at rows n
width_at (unread m class rows) n = width_at rows n
width_at (options m kinds rows) n = if n == m then None else width_at rows n

-- the width of the first range that has the type; a range is its first type, its last type, and the width
unfoldable pub look_up : List (ℕ × ℕ × ℕ) → ℕ → Option ℕ
look_up [] n = None
look_up (w ∷ ws) n = if is_within w.0 w.1 n then Some w.2 else look_up ws n

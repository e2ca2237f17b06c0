-- Numbers: their bits in bytes, and their JSON; with names or without.
use Rattle.std.specs.Prelude.{Bool, List, None, Option, Some, [], bytes_eq, codes, false, if◌then◌else◌, nat_lt, negsuc, option_and_then, option_map}
use Rattle.std.specs.Prelude.{reverse, true, unwrap_or, ℕ, ◌*◌, ◌-◌, ◌==◌, ◌^◌, ◌∷◌}
use Rattle.nla_frames.specs.Value.{le_bytes, le_value}
use Rattle.serde_json.specs.Data.{Data, Num, negative, string, unsigned}
use Rattle.serde_json.specs.Find.{as_number, get}
use Rattle.forms_values.specs.Tables.{Name}
use Rattle.forms_values.specs.Widths.{number_width}
use Rattle.forms_values.specs.declared.form.Number.{Number}
use Rattle.forms_values.specs.declared.form.Number.TheVariants.{I16, I32, I64, I8, U16, U16Be, U32, U32Be, U64, U64Be, U8}

-- most significant byte first
abbrev pub is_big : Number → Bool
is_big U16Be = true
is_big U32Be = true
is_big U64Be = true
is_big k = false

-- two's complement
abbrev pub is_signed : Number → Bool
is_signed I8 = true
is_signed I16 = true
is_signed I32 = true
is_signed I64 = true
is_signed k = false

-- little-endian bytes, from big-endian ones or not; and back
abbrev pub in_order : Bool → List ℕ → List ℕ
in_order true b = reverse b
in_order false b = b

-- the number, as its bits
abbrev pub bits_of : Number → List ℕ → ℕ
bits_of k b = le_value (in_order (is_big k) b)

-- the bytes of a number's bits
abbrev pub bytes_of : Number → ℕ → List ℕ
bytes_of k n = in_order (is_big k) (le_bytes (number_width k) n)

-- half the number of values
abbrev pub half : Number → ℕ
half U8 = 2 ^ 7
half I8 = 2 ^ 7
half U16 = 2 ^ 15
half I16 = 2 ^ 15
half U16Be = 2 ^ 15
half U32 = 2 ^ 31
half I32 = 2 ^ 31
half U32Be = 2 ^ 31
half U64 = 2 ^ 63
half I64 = 2 ^ 63
half U64Be = 2 ^ 63

-- a number of 2 * h values; if it is signed, the upper half are negative
abbrev pub num_of : Bool → ℕ → ℕ → Num
num_of true h n = if nat_lt n h then unsigned n else negative (negsuc (2 * h - 1 - n))
num_of false h n = unsigned n

-- a number below another
abbrev pub below : ℕ → ℕ → Option ℕ
below top n = if nat_lt n top then Some n else None

-- its bits, if it is in range
abbrev pub bits_in : Bool → ℕ → Num → Option ℕ
bits_in true h (unsigned n) = below h n
bits_in true h (negative (negsuc n)) = option_map (λ m. 2 * h - 1 - m) (below h n)
bits_in false h (unsigned n) = below (2 * h) n
bits_in s h x = None

-- the number of these bits
abbrev pub num : Number → ℕ → Num
num k n = num_of (is_signed k) (half k) n

-- the bits of this number
abbrev pub bits : Number → Num → Option ℕ
bits k x = bits_in (is_signed k) (half k) x

-- the bytes of a number in JSON
abbrev pub number_made : Number → Data → Option (List ℕ)
number_made k d = option_map (bytes_of k) (option_and_then (bits k) (as_number d))

-- ---- numbers that have names

-- the first name of a number
abbrev pub name_of : List Name → ℕ → Option (List ℕ)
name_of [] n = None
name_of (x ∷ xs) n = if x.number == n then Some x.name else name_of xs n

-- the number of the first such name
abbrev pub number_of : List Name → List ℕ → Option ℕ
number_of [] name = None
number_of (x ∷ xs) name = if bytes_eq x.name name then Some x.number else number_of xs name

-- the name leads back to this number
abbrev pub is_number : Option ℕ → ℕ → Bool
is_number None n = false
is_number (Some m) n = m == n

-- the name of this number, if only this number has it
abbrev pub named_or : List Name → ℕ → Data → Option (List ℕ) → Data
named_or names n d None = d
named_or names n d (Some name) = if is_number (number_of names name) n then string name else d

-- a number by its name, or as a number
abbrev pub named_made : Number → Option ℕ → Data → Option (List ℕ)
named_made k (Some n) d = Some (bytes_of k n)
named_made k None d = number_made k (unwrap_or (get (codes "Other") d) d)

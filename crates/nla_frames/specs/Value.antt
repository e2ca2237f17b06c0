-- Plain values: numbers of a width in either byte order, texts, and bytes of an exact width.
use Rattle.std.specs.Prelude.{◌≡◌, true, ℕ, zero, suc, ◌+◌, ◌-◌, ◌*◌, ◌/◌, ◌%◌, Bool, List, [], ◌∷◌, ◌++◌, length, take, reverse, slice_index_or, Ok, Err, ◌==◌}
use Rattle.std.specs.Prelude.{if◌then◌else◌, ◌<◌, slice_index}
use Rattle.std.specs.Str.{is_utf8}
use Rattle.nla_frames.specs.declared.error.DecodeError.TheVariants.{WrongLength, NotUtf8}
use Rattle.nla_frames.specs.Fault.{Outcome}

-- each is a byte
pub record IsBytes (bytes : List ℕ) : Type 0 where
  pub each : (i : ℕ) → slice_index bytes i < 256

-- a text: UTF-8
pub record IsText (t : List ℕ) : Type 0 where
  pub is_bytes : IsBytes t
  pub is_text : is_utf8 t ≡ true

-- a number's lowest bytes, little-endian
abbrev pub le_bytes : ℕ → ℕ → List ℕ
le_bytes zero x = []
le_bytes (suc n) x = x % 256 ∷ le_bytes n (x / 256)

-- the number that bytes make, little-endian
abbrev pub le_value : List ℕ → ℕ
le_value [] = 0
le_value (b ∷ bytes) = b + 256 * le_value bytes

-- the same, big-endian
abbrev pub be_bytes : ℕ → ℕ → List ℕ
be_bytes n x = reverse (le_bytes n x)

abbrev pub be_value : List ℕ → ℕ
be_value bytes = le_value (reverse bytes)

-- bytes of exactly this width
abbrev pub exactly : ℕ → List ℕ → Outcome (List ℕ)
exactly n value = if length value == n then Ok value else Err (WrongLength n (length value))

-- a number of this width
abbrev pub le_number : ℕ → List ℕ → Outcome ℕ
le_number n value = if length value == n then Ok (le_value value) else Err (WrongLength n (length value))

abbrev pub be_number : ℕ → List ℕ → Outcome ℕ
be_number n value = if length value == n then Ok (be_value value) else Err (WrongLength n (length value))

abbrev pub ends_in_nul : List ℕ → Bool
ends_in_nul value = slice_index_or value (length value - 1) 1 == 0

-- a text without the NUL that may end it
unfoldable pub strip : List ℕ → List ℕ
strip value = if ends_in_nul value then take (length value - 1) value else value

-- the text of a value: UTF-8 before one NUL that may end it
abbrev pub text : List ℕ → Outcome (List ℕ)
text value = if is_utf8 (strip value) then Ok (strip value) else Err NotUtf8

-- a text as it is written, with its NUL
abbrev pub terminated : List ℕ → List ℕ
terminated text = text ++ 0 ∷ []

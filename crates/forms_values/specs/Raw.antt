-- Bytes in hex, and those that don't follow their form: `{"raw":"dead"}`.
use Rattle.std.specs.Prelude.{Bool, Err, List, None, Ok, Option, Result, Some, [], bytes_eq, codes, if◌then◌else◌, length, nat_lt, option_and_then, true, ℕ}
use Rattle.std.specs.Prelude.{◌&&◌, ◌==◌, ◌∷◌}
use Rattle.hex.specs.Hex.{decode_of}
use Rattle.hex.specs.declared.error.FromHexError.{FromHexError}
use Rattle.serde_json.specs.Data.{Data, member, no_members, object, string}
use Rattle.serde_json.specs.Find.{as_str, get}
use Rattle.tc_texts.specs.Hex.{hex_text}
use Rattle.forms_values.specs.Search.{held}

-- an object of one member
abbrev pub one : List ℕ → Data → Data
one name held = object (member name held no_members)

-- two digits for each byte, in lower case
abbrev pub hex : List ℕ → Data
hex b = string (hex_text b)

-- bytes that don't follow their form
abbrev pub raw : List ℕ → Data
raw b = one (codes "raw") (hex b)

-- ---- and back

abbrev pub decoded : Result (List ℕ) FromHexError → Option (List ℕ)
decoded (Ok b) = Some b
decoded (Err e) = None

-- each is a byte
abbrev pub all_bytes : List ℕ → Bool
all_bytes [] = true
all_bytes (x ∷ b) = nat_lt x 256 && all_bytes b

-- the bytes read from a text, if their own text is the same
abbrev pub with_text : (List ℕ → List ℕ) → List ℕ → Option (List ℕ) → Option (List ℕ)
with_text text_of text (Some b) = if all_bytes b && bytes_eq (text_of b) text then Some b else None
with_text text_of text None = None

-- bytes, if their number is n
abbrev pub of_length : ℕ → List ℕ → Option (List ℕ)
of_length n b = if length b == n then Some b else None

-- digits in lower case, two for each byte
abbrev pub hex_of : List ℕ → Option (List ℕ)
hex_of text = with_text hex_text text (decoded (decode_of text))

-- the bytes of a text in hex
abbrev pub hex_made : Data → Option (List ℕ)
hex_made d = option_and_then hex_of (as_str d)

-- the bytes of `{"raw":"dead"}`
abbrev pub raw_of : Data → Option (List ℕ)
raw_of d = option_and_then hex_made (get (codes "raw") d)

-- bytes that are raw, or made by the form
abbrev pub or_raw : Option (List ℕ) → Option (List ℕ) → Option (List ℕ)
or_raw (Some b) made = Some b
or_raw None made = made

-- The values of attributes are at their offsets.
use Rattle.std.specs.Prelude.{◌≡◌, ℕ, List, length, take, drop, Ok, Err}
use Rattle.tc_index.specs.Attributes.{Item}

-- these bytes are at an offset of a message
abbrev pub IsAt : List ℕ → ℕ → List ℕ → Type 0
IsAt message at bytes = take (length bytes) (drop at message) ≡ bytes

-- an attribute's value is at its offset
abbrev pub ValueIsAt : List ℕ → Item → Type 0
ValueIsAt message (Ok p) = IsAt message p.offset p.frame.value
ValueIsAt message (Err broken) = Unit {0}

-- Bytes and numbers in hex.
use Rattle.std.specs.Prelude.{ℕ, zero, suc, ◌/◌, ◌%◌, Bool, List, [], ◌∷◌, ◌++◌, flat_map, nat_le, nat_lt, ◌&&◌, if◌then◌else◌}
use Rattle.std.specs.List.{list_any}
use Rattle.std.specs.Char.{digit_char}

-- an octet: two lower-case hex digits
abbrev pub octet_text : ℕ → List ℕ
octet_text o = digit_char (o / 16) ∷ digit_char (o % 16) ∷ []

-- bytes: two digits each, without separators
abbrev pub hex_text : List ℕ → List ℕ
hex_text bytes = flat_map octet_text bytes

-- true if a text has one of the digits `A` to `F`
abbrev pub has_capital : List ℕ → Bool
has_capital text = list_any (λ c. nat_le 65 c && nat_le c 70) text

-- a number in hex without leading zeros, at most n digits
abbrev pub hex_in : ℕ → ℕ → List ℕ
hex_in zero n = []
hex_in (suc left) n =
    if nat_lt n 16 then digit_char n ∷ [] else hex_in left (n / 16) ++ digit_char (n % 16) ∷ []

-- a number of 64 bits in hex; shut, so that it isn't computed digit by digit
unfoldable pub hex_number : ℕ → List ℕ
hex_number n = hex_in 16 n

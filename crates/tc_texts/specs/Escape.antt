-- Escaping text for a terminal.
use Rattle.std.specs.Char.{digit_char}
use Rattle.std.specs.Prelude.{ℕ, Bool, List, [], ◌∷◌, ◌&&◌, ◌/◌, ◌%◌, if◌then◌else◌, nat_le}

-- printable ASCII, which every terminal shows unchanged
abbrev pub is_printable : ℕ → Bool
is_printable b = nat_le 0x20 b && nat_le b 0x7e

-- a byte, unchanged if it is printable, else as `\x1b`
abbrev pub escaped_byte : ℕ → List ℕ
escaped_byte b = if is_printable b then b ∷ [] else 92 ∷ 120 ∷ digit_char (b / 16) ∷ digit_char (b % 16) ∷ []

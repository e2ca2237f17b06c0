-- What messages for tests are made of.
use Rattle.std.specs.Prelude.{ℕ, ◌+◌, ◌-◌, ◌%◌, List, ◌++◌, length, replicate}
use Rattle.std.specs.Int.{w16, to_le_bytes}
use Rattle.tests_data.specs.declared.input.Form.{Form}
use Rattle.tests_data.specs.declared.input.Form.TheVariants.{Tc, Action}

-- how long the header of a message is
abbrev pub header_len : Form → ℕ
header_len Tc = 20
header_len Action = 4

-- a header of zeros, and what follows it
abbrev pub after_zeros : Form → List ℕ → List ℕ
after_zeros form body = replicate (header_len form) 0 ++ body

-- how many zeros follow a value of that many bytes
abbrev pub padding : ℕ → ℕ
padding n = (4 - n % 4) % 4

-- an attribute, padded in full
abbrev pub attribute : ℕ → List ℕ → List ℕ
attribute word value = to_le_bytes w16 (4 + length value) ++ (to_le_bytes w16 word ++ (value ++ replicate (padding (length value)) 0))

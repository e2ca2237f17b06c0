-- Flags of a word.
use Rattle.std.specs.Prelude.{◌≡◌, ℕ, ◌^◌, ◌<◌, List, bit_and}
use Rattle.bitflags.specs.Sets.{Row, known_bits}

-- every bit of an n-bit word belongs to a flag of the table
abbrev pub KnowsEvery : ℕ → List Row → Type 0
KnowsEvery bits table = (word : ℕ) → word < 2 ^ bits → bit_and word (known_bits table) ≡ word

-- The bytes of a writer.
use Rattle.std.specs.Prelude.{◌≡◌, ℕ, List, ◌++◌, Option}
use Rattle.std.specs.Io.KnownBytes.{Appends}

-- a front of some bytes is appended, and the rest is left
abbrev pub GrowsByFront : Option (List ℕ) → Option (List ℕ) → List ℕ → List ℕ → Type 0
GrowsByFront old new bytes rest = (front : List ℕ) × (bytes ≡ front ++ rest) × Appends old new front

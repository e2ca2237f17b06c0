-- A verdict as a number.
use Rattle.std.specs.Prelude.{◌≡◌, ◌⊎◌, ℕ}

-- 1 if the property holds, 0 if it doesn't
abbrev pub Says : ℕ → Type 0 → Type 0
Says verdict Holds = ((verdict ≡ 1) × Holds) ⊎ ((verdict ≡ 0) × (Holds → ⊥))

-- Abstraction functions that lose no field.
use Rattle.std.specs.Prelude.{◌≡◌}

-- `see` forgets nothing: values with equal abstract values hold the same
abbrev pub ForgetsNothing : {T X : Type 0} → (T → X) → (T → T → Type 0) → Type 0
ForgetsNothing {T} see Same = (a b : T) → see a ≡ see b → Same a b

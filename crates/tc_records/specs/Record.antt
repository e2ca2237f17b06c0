-- The fields of a record, read and written in order.
use Rattle.std.specs.Prelude.{◌≡◌, ℕ, List, [], ◌∷◌, take, drop}
use Rattle.tc_canon.specs.Descriptor.{Field}
use Rattle.tc_canon.specs.Layouts.{width}
use Rattle.tc_records.specs.declared.octets.Octets.{Octets}

-- the bytes written so far, and their number
unfoldable pub written : Octets → List ℕ
written o = take o.len o.bytes

abbrev pub filled : Octets → ℕ
filled o = o.len

-- the bytes after the fields of a layout
abbrev pub after_fields : List Field → List ℕ → List ℕ
after_fields [] bytes = bytes
after_fields (f ∷ fs) bytes = after_fields fs (drop (width f) bytes)

-- values with equal abstract values are equal
abbrev pub ForgetsNothing : {X Y : Type 0} → (X → Y) → Type 0
ForgetsNothing {X} see = (a b : X) → see a ≡ see b → a ≡ b

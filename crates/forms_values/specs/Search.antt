-- What is found first in a list.
use Rattle.std.specs.Prelude.{Bool, List, None, Option, Some, [], if◌then◌else◌, ℕ, ◌∷◌}
use Rattle.serde_json.specs.Data.{Data}
use Rattle.serde_json.specs.Find.{get}

-- the first that passes
abbrev pub first : {T : Type 0} → (T → Bool) → List T → Option T
first passes [] = None
first passes (x ∷ xs) = if passes x then Some x else first passes xs

-- the first whose name has a member
module _ {T : Type 0} (name : T → List ℕ) (passes : T → Bool) where
  abbrev pub held_or : T → Option Data → Option (T × Data) → Option (T × Data)
  held_or x None later = later
  held_or x (Some d) later = if passes x then Some (x, d) else later

  abbrev pub held : List T → Data → Option (T × Data)
  held [] d = None
  held (x ∷ xs) d = held_or x (get (name x) d) (held xs d)

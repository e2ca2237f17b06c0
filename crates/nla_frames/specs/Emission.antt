-- The bytes of a list of values, and when they can be written.
use Rattle.std.specs.Prelude.{◌≡◌, ℕ, ◌≤◌, ◌<◌, ◌^◌, List, ◌++◌, length, drop, Option}
use Rattle.std.specs.Option.{MatchOption}
use Rattle.std.specs.List.{flat_map, AllByRecursion}
use Rattle.nla_frames.specs.Frame.{Frame, frame_bytes}

-- the frames of the values, one after the other
unfoldable pub list_bytes : {X : Type 0} → (X → Frame) → List X → List ℕ
list_bytes frame xs = flat_map (λ x. frame_bytes (frame x)) xs

-- each value fits, and their length is a `usize`
pub record ListFits {X : Type 0} (Fits : X → Type 0) (frame : X → Frame) (xs : List X) : Type 0 where
  pub each : AllByRecursion Fits xs
  pub whole : length (list_bytes frame xs) < 2 ^ 64

-- these bytes are at the front, and the rest is unchanged
abbrev pub Writes : List ℕ → List ℕ → List ℕ → Type 0
Writes bytes old new = new ≡ bytes ++ drop (length bytes) old

-- the buffer is long enough
abbrev pub HasRoom : List ℕ → List ℕ → Type 0
HasRoom bytes buffer = length bytes ≤ length buffer

-- the length of these bytes if the value fits, and otherwise none
abbrev pub Measures : Option ℕ → Type 0 → List ℕ → Type 0
Measures measured Fits bytes = MatchOption measured (Fits → ⊥) (λ n. Fits × (n ≡ length bytes))

-- each value fits, and together they have at most 65531 bytes
abbrev pub NestedFits : {X : Type 0} → (X → Type 0) → (X → Frame) → List X → Type 0
NestedFits Fits frame xs = ListFits Fits frame xs × (length (list_bytes frame xs) ≤ 65531)

-- Reading a list of frames, each under the kind in force at its place, as a function of what is cut.
use Rattle.std.specs.Prelude.{map, ℕ, List, [], ◌∷◌, ◌++◌, None, Ok, Err}
use Rattle.nla_frames.specs.Fault.{Outcome, ◌>>=◌}
use Rattle.nla_frames.specs.Frame.{Frame}
use Rattle.nla_frames.specs.Cutting.{cut, items_of}
use Rattle.nla_frames.specs.Place.{Sets, kind_then}

-- a reading of one frame under a kind
abbrev pub Reads : Type 0 → Type 0
Reads X = List ℕ → Frame → Outcome X

-- a value before the others that are read
abbrev pub before : {X : Type 0} → List X → Outcome (List X) → Outcome (List X)
before front others = others >>= λ xs. Ok (front ++ xs)

-- each item in order, up to the first fault
unfoldable pub read_each : {X : Type 0} → Reads X → Sets Frame → List ℕ → List (Outcome Frame) → Outcome (List X)
read_each reads sets kind [] = Ok []
read_each reads sets kind (Err e ∷ items) = Err e
read_each reads sets kind (Ok f ∷ items) = reads kind f >>= λ x. before (x ∷ []) (read_each reads sets (kind_then sets kind f) items)

-- a list of frames
unfoldable pub read_list : {X : Type 0} → Reads X → Sets Frame → List ℕ → List ℕ → Outcome (List X)
read_list reads sets kind bytes = read_each reads sets kind (items_of (cut bytes))

-- nothing sets a kind
abbrev pub keep : {X : Type 0} → Sets X
keep x = None

-- items without a fault
abbrev pub whole : List Frame → List (Outcome Frame)
whole fs = map Ok fs

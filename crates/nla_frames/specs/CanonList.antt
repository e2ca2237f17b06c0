-- Lists of frames in canonical form, defined on bytes only.
use Rattle.std.specs.Prelude.{◌≡◌, List, [], ◌∷◌, ℕ, ⊤}
use Rattle.std.specs.List.{flat_map, AllByRecursion}
use Rattle.nla_frames.specs.Frame.{Frame, IsFrame, frame_bytes}
use Rattle.nla_frames.specs.Place.{Sets, kind_then}

-- a definition of which frames are canonical under a kind
abbrev pub IsCanonAt : Type 1
IsCanonAt = List ℕ → Frame → Type 0

-- the bytes are frames that satisfy `Holds`, one after the other, each padded in full with zeros
pub record IsPaddedList (Holds : List Frame → Type 0) (bytes : List ℕ) : Type 0 where
  pub list : List Frame
  pub frames : AllByRecursion IsFrame list
  pub whole : bytes ≡ flat_map frame_bytes list
  pub holds : Holds list

-- each frame is canonical under the kind in force at its place
abbrev pub CanonEach : IsCanonAt → Sets Frame → List ℕ → List Frame → Type 0
CanonEach Canon sets k [] = ⊤
CanonEach Canon sets k (f ∷ fs) = Canon k f × CanonEach Canon sets (kind_then sets k f) fs

-- a list of canonical frames
abbrev pub IsCanonList : IsCanonAt → Sets Frame → List ℕ → List ℕ → Type 0
IsCanonList Canon sets first bytes = IsPaddedList (CanonEach Canon sets first) bytes

-- The kinds that frames set: the text of each frame of type 1 (`TCA_KIND`, `TCA_ACT_KIND`), whatever its flags.
use Rattle.std.specs.Prelude.{◌≡◌, ℕ, ◌==◌, Bool, List, [], ◌∷◌, Some, None, if◌then◌else◌}
use Rattle.nla_frames.specs.Value.{strip}
use Rattle.nla_frames.specs.Frame.{Frame, type_of}
use Rattle.nla_frames.specs.Place.{Sets, kinds_set}

-- the frame is of type 1
abbrev pub is_kind_frame : Frame → Bool
is_kind_frame f = type_of f.word == 1

-- in a message, such a frame sets the kind for those after it
abbrev pub kind_of_frame : Sets Frame
kind_of_frame f = if is_kind_frame f then Some (strip f.value) else None

-- all the kinds that frames set, in order
abbrev pub kinds_of_frames : List Frame → List (List ℕ)
kinds_of_frames fs = kinds_set kind_of_frame fs

-- the frames of an action set one kind, at any place among them
abbrev pub SetsOneKind : List Frame → List ℕ → Type 0
SetsOneKind fs own = kinds_of_frames fs ≡ own ∷ []

-- The readings and faults of a list of frames, as a grammar: each frame is read under the kind in force at its place.
-- `list_grammar` in src/laws.rt proves that `read_list` is this grammar.
use Rattle.std.specs.Prelude.{◌≡◌, ℕ, ◌⊎◌, List, ◌∷◌, ◌++◌, length, take, slice_get, Some, Result, Ok, Err, ◌↔◌}
use Rattle.nla_frames.specs.declared.error.DecodeError.{DecodeError}
use Rattle.nla_frames.specs.Frame.{Frame}
use Rattle.nla_frames.specs.Grammar.{Begins, Ends, AreFrames, AreFramesAndRest, IsBroken}
use Rattle.nla_frames.specs.Place.{Sets, InForce}
use Rattle.nla_frames.specs.Reading.{Reads, keep}

-- at its place, the frame reads as this element
pub record ReadsAt {X : Type 0} (reads : Reads X) (sets : Sets Frame) (first : List ℕ) (before : List Frame) (f : Frame) (x : X) : Type 0 where
  pub kind : List ℕ
  pub in_force : InForce sets first before kind
  pub is_read : reads kind f ≡ Ok x

-- each frame reads as the element at its place
pub record ReadEach {X : Type 0} (reads : Reads X) (sets : Sets Frame) (first : List ℕ) (fs : List Frame) (xs : List X) : Type 0 where
  pub as_many : length xs ≡ length fs
  pub each : (i : ℕ) (f : Frame) (x : X) → slice_get fs i ≡ Some f → slice_get xs i ≡ Some x → ReadsAt reads sets first (take i fs) f x

-- the bytes are frames, and these are their readings
abbrev pub ListReads : {X : Type 0} → Reads X → Sets Frame → List ℕ → List ℕ → List X → Type 0
ListReads reads sets first bytes xs = (fs : List Frame) × AreFrames bytes fs × ReadEach reads sets first fs xs

-- a frame is at the front: the last one, or one with others after it
abbrev pub StartsWith : List ℕ → Frame → Type 0
StartsWith bytes f = Ends bytes f ⊎ ((after : List ℕ) × Begins bytes f after)

-- the frame at the front has this fault
pub record HasFaultyFrame {X : Type 0} (reads : Reads X) (sets : Sets Frame) (first : List ℕ) (before : List Frame) (rest : List ℕ)
    (e : DecodeError) : Type 0 where
  pub frame : Frame
  pub kind : List ℕ
  pub starts : StartsWith rest frame
  pub in_force : InForce sets first before kind
  pub is_refused : reads kind frame ≡ Err e

-- frames that are read, and after them a broken frame or one that has the fault
pub record IsListFault {X : Type 0} (reads : Reads X) (sets : Sets Frame) (first : List ℕ) (bytes : List ℕ) (e : DecodeError) : Type 0 where
  pub frames : List Frame
  pub rest : List ℕ
  pub values : List X
  pub cut : AreFramesAndRest bytes frames rest
  pub are_read : ReadEach reads sets first frames values
  pub fault : IsBroken rest e ⊎ HasFaultyFrame reads sets first frames rest e

-- of frames that are already cut, each read under one kind, one is refused in this way, and all before it are read
pub record IsFirstRefusal {X : Type 0} (reads : Reads X) (kind : List ℕ) (fs : List Frame) (e : DecodeError) : Type 0 where
  pub before : List Frame
  pub frame : Frame
  pub after : List Frame
  pub values : List X
  pub parts : fs ≡ before ++ frame ∷ after
  pub are_read : ReadEach reads keep kind before values
  pub is_refused : reads kind frame ≡ Err e

-- the list has one reading and no fault, or no reading and one fault
pub record HasOneOutcome {X : Type 0} (reads : Reads X) (sets : Sets Frame) (first : List ℕ) (bytes : List ℕ)
    (outcome : Result (List X) DecodeError) : Type 0 where
  pub reading : (xs : List X) → (outcome ≡ Ok xs) ↔ ListReads reads sets first bytes xs
  pub fault : (e : DecodeError) → (outcome ≡ Err e) ↔ IsListFault reads sets first bytes e

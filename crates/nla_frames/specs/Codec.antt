-- How a type is read and written, and the laws that make reading and writing inverses. `W` is the source, a frame or
-- bytes; `X` is the abstract value.
use Rattle.std.specs.Prelude.{◌≡◌, ℕ, ◌<◌, ◌≤◌, ◌^◌, List, [], ◌∷◌, length, take, slice_get, Some, Ok, ◌↔◌}
use Rattle.std.specs.List.{AllByRecursion}
use Rattle.nla_frames.specs.Fault.{Outcome}
use Rattle.nla_frames.specs.Value.{IsBytes}
use Rattle.nla_frames.specs.Frame.{Frame, IsWireFrame}
use Rattle.nla_frames.specs.Place.{Sets, InForce, kind_then}
use Rattle.nla_frames.specs.Reading.{Reads, read_list}
use Rattle.nla_frames.specs.Emission.{list_bytes, ListFits}

pub record Codec (W X : Type 0) : Type 1 where
  -- the reading under a kind
  pub read : List ℕ → W → Outcome X
  pub write : X → W
  -- numbers are in the range of their types and texts are UTF-8, as in any value of a program
  pub Typed : X → Type 0
  -- it can be written
  pub Fits : X → Type 0
  -- it reads back as itself under a kind
  pub Settled : List ℕ → X → Type 0

pub record Laws {W X : Type 0} (IsWire : W → Type 0) (codec : Codec W X) (Canon : List ℕ → W → Type 0) : Type 0 where
  -- what fits is written as something that can be read
  pub makes : (x : X) → codec.Typed x → codec.Fits x → IsWire (codec.write x)
  -- what is read is typed
  pub typed : (kind : List ℕ) (w : W) (x : X) → IsWire w → codec.read kind w ≡ Ok x → codec.Typed x
  -- what is written reads back as itself if and only if it is settled
  pub back : (kind : List ℕ) (x : X) → codec.Typed x → codec.Fits x → (codec.read kind (codec.write x) ≡ Ok x) ↔ codec.Settled kind x
  -- what is read and fits is written as the same bytes if and only if these are canonical
  pub same : (kind : List ℕ) (w : W) (x : X) → IsWire w → codec.read kind w ≡ Ok x → codec.Fits x → (codec.write x ≡ w) ↔ Canon kind w
  -- what is canonical is read, as something that fits
  pub reads : (kind : List ℕ) (w : W) → IsWire w → Canon kind w → (x : X) × (codec.read kind w ≡ Ok x) × codec.Fits x

-- bytes that a slice can hold
pub record IsWireBytes (bytes : List ℕ) : Type 0 where
  pub are_bytes : IsBytes bytes
  pub long : length bytes < 2 ^ 64

-- bytes that can be a frame's value
pub record IsWireValue (value : List ℕ) : Type 0 where
  pub are_bytes : IsBytes value
  pub short : length value ≤ 65531

-- each value is settled under the kind in force at its place
abbrev pub SettledEach : {X : Type 0} → (List ℕ → X → Type 0) → Sets X → List ℕ → List X → Type 0
SettledEach Settled sets kind [] = Unit {0}
SettledEach Settled sets kind (x ∷ xs) = Settled kind x × SettledEach Settled sets (kind_then sets kind x) xs

-- after these values, under the kind that is set last among them, the value is settled
pub record SettledAfter {X : Type 0} (Settled : List ℕ → X → Type 0) (sets : Sets X) (first : List ℕ) (before : List X) (x : X) : Type 0 where
  pub kind : List ℕ
  pub in_force : InForce sets first before kind
  pub settled : Settled kind x

-- the same, stated for each place by itself
abbrev pub SettledAtEach : {X : Type 0} → (List ℕ → X → Type 0) → Sets X → List ℕ → List X → Type 0
SettledAtEach Settled sets first xs = (i : ℕ) (x : _) → slice_get xs i ≡ Some x → SettledAfter Settled sets first (take i xs) x

-- a frame sets the same kind as the attribute that is read from it
abbrev pub SetTheSame : {X : Type 0} → Reads X → Sets Frame → Sets X → Type 0
SetTheSame reads by_frame by_value = (kind : List ℕ) (f : Frame) (x : _) → IsWireFrame f → reads kind f ≡ Ok x → by_frame f ≡ by_value x

-- a list of frames; frames and the values read from them may set the kind for those after them
abbrev pub list_codec : {X : Type 0} → Sets Frame → Sets X → Codec Frame X → Codec (List ℕ) (List X)
list_codec by_frame by_value c = record {
  read = λ kind bytes. read_list c.read by_frame kind bytes;
  write = list_bytes c.write;
  Typed = AllByRecursion c.Typed;
  Fits = ListFits c.Fits c.write;
  Settled = SettledEach c.Settled by_value;
}

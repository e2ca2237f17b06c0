-- The frames that are cut, and the cutting of frames as they are written.
use Rattle.std.proofs.Common.{◌≡◌, ℕ, ◌<◌, List, [], ◌∷◌, ◌++◌, length, map, Some, None, Ok, Err, refl, ap, ◌∙◌}
use Rattle.std.specs.List.{flat_map, AllByRecursion}
use Rattle.nla_frames.specs.declared.error.DecodeError.{DecodeError}
use Rattle.nla_frames.specs.declared.error.DecodeError.TheVariants.{OutOfMemory}
use Rattle.nla_frames.specs.Value.{IsBytes}
use Rattle.nla_frames.specs.Frame.{Frame, IsFrame, IsWireFrame, frame_bytes}
use Rattle.nla_frames.specs.Emission.{list_bytes}
use Rattle.nla_frames.specs.Cutting.{before_cut, cut, next_frame}
use Rattle.nla_frames.proofs.NextFrame.{IsBytes-next_frame, IsWireFrame-next_frame, next_frame_not_memory}
use Rattle.nla_frames.proofs.FrameBytes.{IsBytes-frame_bytes, next_frame-frame_bytes}
use Rattle.nla_frames.proofs.Bytes.{IsBytes-nil, IsBytes-append}
use Rattle.nla_frames.proofs.CutSteps.{cut-nil, cut-next_frame, cut_refused, by_frames}

-- each frame that is cut could be on the wire
pub IsWireFrame-cut : (bytes : List ℕ) → IsBytes bytes → AllByRecursion IsWireFrame (cut bytes).frames
IsWireFrame-cut = by_frames (λ (bytes : List ℕ). IsBytes bytes → AllByRecursion IsWireFrame (cut bytes).frames) none broken more
  where
    none : IsBytes [] → AllByRecursion IsWireFrame (cut []).frames
    none is = rw cut-nil tt

    broken : (bytes : List ℕ) (e : DecodeError) → 0 < length bytes → next_frame bytes ≡ Err e → IsBytes bytes → AllByRecursion IsWireFrame (cut bytes).frames
    broken bytes e some refused is = rw (cut_refused bytes e some refused) tt

    more : (bytes : List ℕ) (f : Frame) (after : List ℕ) → next_frame bytes ≡ Ok (f, after) → (IsBytes after → AllByRecursion IsWireFrame (cut after).frames)
        → IsBytes bytes → AllByRecursion IsWireFrame (cut bytes).frames
    more bytes f after e later is =
        rw (cut-next_frame bytes f after e) (IsWireFrame-next_frame bytes f after is e, later (IsBytes-next_frame bytes f after is e).1)

-- no cutting ends because memory ran out
pub cut_not_memory : (bytes : List ℕ) → (cut bytes).fault ≡ Some OutOfMemory → ⊥
cut_not_memory = by_frames (λ (bytes : List ℕ). (cut bytes).fault ≡ Some OutOfMemory → ⊥) none broken more
  where
    none : (cut []).fault ≡ Some OutOfMemory → ⊥
    none e = let f : None ≡ Some OutOfMemory = rw cut-nil at e in cc

    broken : (bytes : List ℕ) (e : DecodeError) → 0 < length bytes → next_frame bytes ≡ Err e → (cut bytes).fault ≡ Some OutOfMemory → ⊥
    broken bytes e some refused is =
        let f : Some e ≡ Some OutOfMemory = rw (cut_refused bytes e some refused) at is in
        let g : e ≡ OutOfMemory = cc in
        next_frame_not_memory bytes (refused ∙ ap (λ (x : DecodeError). Err x) g)

    more : (bytes : List ℕ) (f : Frame) (after : List ℕ) → next_frame bytes ≡ Ok (f, after) → ((cut after).fault ≡ Some OutOfMemory → ⊥)
        → (cut bytes).fault ≡ Some OutOfMemory → ⊥
    more bytes f after e later is = later (rw (cut-next_frame bytes f after e) at is)

-- a frame as it is written, and what follows
pub cut-frame_bytes : (f : Frame) (rest : List ℕ) → IsFrame f → cut (frame_bytes f ++ rest) ≡ before_cut f (cut rest)
cut-frame_bytes f rest is = cut-next_frame (frame_bytes f ++ rest) f rest (next_frame-frame_bytes f rest is)

-- frames as they are written
pub cut-flat_map : (fs : List Frame) → AllByRecursion IsFrame fs → cut (flat_map frame_bytes fs) ≡ record { frames = fs; fault = None }
cut-flat_map [] is = cut-nil
cut-flat_map (f ∷ fs) is = cut-frame_bytes f (flat_map frame_bytes fs) is.0 ∙ ap (before_cut f) (cut-flat_map fs is.1)

-- the frames of values
pub list_bytes-map : {X : Type 0} (frame : X → Frame) (xs : List X) → list_bytes frame xs ≡ flat_map frame_bytes (map frame xs)
unfolding list_bytes
list_bytes-map frame [] = refl
list_bytes-map frame (x ∷ xs) = ap (λ (t : List ℕ). frame_bytes (frame x) ++ t) (list_bytes-map frame xs)

-- a fact of each value's frame is one of each frame
map_each : {X : Type 0} (P : Frame → Type 0) (frame : X → Frame) (xs : List X) → AllByRecursion (λ x. P (frame x)) xs → AllByRecursion P (map frame xs)
map_each P frame [] each = tt
map_each P frame (x ∷ xs) each = (each.0, map_each P frame xs each.1)

-- frames from a buffer are written as bytes
pub IsBytes-frames : (fs : List Frame) → AllByRecursion IsWireFrame fs → IsBytes (flat_map frame_bytes fs)
IsBytes-frames [] is = IsBytes-nil
IsBytes-frames (f ∷ fs) is = IsBytes-append (frame_bytes f) (flat_map frame_bytes fs) (IsBytes-frame_bytes f is.0.bytes) (IsBytes-frames fs is.1)

-- values that can be on the wire are written as bytes
pub IsBytes-list_bytes : {X : Type 0} (frame : X → Frame) (xs : List X) → AllByRecursion (λ x. IsWireFrame (frame x)) xs → IsBytes (list_bytes frame xs)
IsBytes-list_bytes frame xs each = rw (list_bytes-map frame xs) (IsBytes-frames (map frame xs) (map_each IsWireFrame frame xs each))

-- `next_frame` returns the frame at the front of the bytes, or its fault.
use Rattle.std.proofs.Common.{◌≡◌, ◌⊎◌, ℕ, List, [], ◌∷◌, length, Ok, Err, subst, inl, inr, arith}
use Rattle.nla_frames.specs.declared.error.DecodeError.{DecodeError}
use Rattle.nla_frames.specs.Value.{IsBytes}
use Rattle.nla_frames.specs.Frame.{Frame, padding}
use Rattle.nla_frames.specs.Cutting.{next_frame}
use Rattle.nla_frames.specs.FirstFrame.{StartsWith, HasBrokenFront}
use Rattle.nla_frames.proofs.Front.{Front, Ends-Front}
use Rattle.nla_frames.proofs.NextFrame.{Front-next_frame, IsBroken-next_frame}

-- a frame and what comes after it: it is the last one, or its padding is full
StartsWith-Front : (bytes : List ℕ) (f : Frame) (after : List ℕ) → Front bytes f after → StartsWith bytes f
StartsWith-Front bytes f after front = by_padding front.full_or_last
  where
    by_padding : (length front.pad ≡ padding (length f.value)) ⊎ (after ≡ []) → StartsWith bytes f
    by_padding (inl full) = inr (after, record { frame = front.frame; pad = front.pad; full = full; parts = front.parts })
    by_padding (inr last) = inl (Ends-Front bytes f (subst (λ (t : List ℕ). Front bytes f t) last front))

-- a frame that is found is at the front
pub first_found : (bytes : List ℕ) (f : Frame) (after : List ℕ) → IsBytes bytes → next_frame bytes ≡ Ok (f, after) → StartsWith bytes f
first_found bytes f after is found = StartsWith-Front bytes f after (Front-next_frame bytes f after is found)

-- what is refused is how the front is broken
pub first_refused : (bytes : List ℕ) (e : DecodeError) → next_frame bytes ≡ Err e → HasBrokenFront bytes e
unfolding next_frame
first_refused [] e refused = cc
first_refused (b ∷ bytes) e refused = IsBroken-next_frame (b ∷ bytes) e (omega arith) refused

-- `cut`, one frame at a time.
use Rattle.std.proofs.Common.{◌≡◌, ℕ, zero, suc, ◌+◌, ◌<◌, ◌≤◌, List, [], ◌∷◌, length, Ok, Err, refl, ap, arith}
use Rattle.nla_frames.specs.declared.error.DecodeError.{DecodeError}
use Rattle.nla_frames.specs.Fault.{Outcome}
use Rattle.nla_frames.specs.Frame.{Frame}
use Rattle.nla_frames.specs.Cutting.{nothing_cut, cut_ended, before_cut, cut_after, cut_up_to, cut, next_frame}
use Rattle.nla_frames.proofs.NextFrame.{length-next_frame}

-- enough steps are as good as more
enough_steps : (n m : ℕ) (bytes : List ℕ) → length bytes ≤ n → length bytes ≤ m → cut_up_to n bytes ≡ cut_up_to m bytes
unfolding cut_up_to
enough_steps zero zero [] h k = refl
enough_steps zero (suc m) [] h k = refl
enough_steps (suc n) zero [] h k = refl
enough_steps (suc n) (suc m) [] h k = refl
enough_steps zero m (b ∷ bytes) h k = absurd (omega arith)
enough_steps (suc n) zero (b ∷ bytes) h k = absurd (omega arith)
enough_steps (suc n) (suc m) (b ∷ bytes) h k =
    go (λ (after : List ℕ) (p : length after ≤ n) (q : length after ≤ m). enough_steps n m after p q) (next_frame (b ∷ bytes)) refl
  where
    go : ((after : List ℕ) → length after ≤ n → length after ≤ m → cut_up_to n after ≡ cut_up_to m after) → (next : Outcome (Frame × List ℕ))
        → next_frame (b ∷ bytes) ≡ next → cut_after (cut_up_to n) next ≡ cut_after (cut_up_to m) next
    go same (Ok next) e =
        let shorter : length next.1 + 4 ≤ suc (length bytes) = length-next_frame (b ∷ bytes) next.0 next.1 e in
        ap (before_cut next.0) (same next.1 (omega arith) (omega arith))
    go same (Err fault) e = refl

-- no bytes are no frames
pub cut-nil : cut [] ≡ nothing_cut
unfolding cut cut_up_to
cut-nil = refl

-- the next frame, and what is cut after it
pub cut-next_frame : (bytes : List ℕ) (f : Frame) (after : List ℕ) → next_frame bytes ≡ Ok (f, after) → cut bytes ≡ before_cut f (cut after)
unfolding cut cut_up_to
cut-next_frame [] f after e = absurd (omega (arith, length-next_frame [] f after e))
cut-next_frame (b ∷ bytes) f after e =
    let shorter : length after + 4 ≤ suc (length bytes) = length-next_frame (b ∷ bytes) f after e in
    rw e (ap (before_cut f) (enough_steps (length bytes) (length after) after (omega arith) (omega arith)))

-- where bytes are left and no frame is found, cutting ends
pub cut_refused : (bytes : List ℕ) (e : DecodeError) → 0 < length bytes → next_frame bytes ≡ Err e → cut bytes ≡ cut_ended e
unfolding cut cut_up_to
cut_refused [] e some is = absurd (omega arith)
cut_refused (b ∷ bytes) e some is = rw is refl

-- what holds of no bytes, of bytes that begin with a broken frame, and of a frame and what follows if it holds of what follows, holds of all bytes
module _ (P : List ℕ → Type 0) (none : P []) (broken : (bytes : List ℕ) (e : DecodeError) → 0 < length bytes → next_frame bytes ≡ Err e → P bytes)
    (more : (bytes : List ℕ) (f : Frame) (after : List ℕ) → next_frame bytes ≡ Ok (f, after) → P after → P bytes) where
  -- the same of bytes that so many frames use up
  by_steps : (n : ℕ) (bytes : List ℕ) → length bytes ≤ n → P bytes
  by_steps n [] h = none
  by_steps zero (b ∷ bytes) h = absurd (omega arith)
  by_steps (suc n) (b ∷ bytes) h = go (λ (after : List ℕ) (p : length after ≤ n). by_steps n after p) (next_frame (b ∷ bytes)) refl
    where
      go : ((after : List ℕ) → length after ≤ n → P after) → (next : Outcome (Frame × List ℕ)) → next_frame (b ∷ bytes) ≡ next → P (b ∷ bytes)
      go later (Ok next) e =
          let shorter : length next.1 + 4 ≤ suc (length bytes) = length-next_frame (b ∷ bytes) next.0 next.1 e in
          more (b ∷ bytes) next.0 next.1 e (later next.1 (omega arith))
      go later (Err fault) e = broken (b ∷ bytes) fault (omega arith) e

  -- of all bytes
  pub by_frames : (bytes : List ℕ) → P bytes
  by_frames bytes = by_steps (length bytes) bytes (omega arith)

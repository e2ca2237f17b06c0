-- The next item of an iterator over frames.
use Rattle.std.proofs.Common.{◌≡◌, ℕ, ◌<◌, List, [], ◌∷◌, length, Ok, Err, Bool, false, refl, sym, ap, ◌∙◌, arith}
use Rattle.std.specs.Prelude.{◌==◌}
use Rattle.nla_frames.specs.declared.error.DecodeError.{DecodeError}
use Rattle.nla_frames.specs.Fault.{Outcome, refused}
use Rattle.nla_frames.specs.Frame.{Frame}
use Rattle.nla_frames.specs.Cutting.{next_frame, cut, items_of}
use Rattle.nla_frames.proofs.CutSteps.{cut-nil, cut-next_frame, cut_refused}

pub items-nil : items_of (cut []) ≡ []
items-nil = rw cut-nil refl

-- a frame, and what follows it
pub items-next_frame : (bytes : List ℕ) (next : Frame × List ℕ) → next_frame bytes ≡ Ok next → items_of (cut bytes) ≡ Ok next.0 ∷ items_of (cut next.1)
items-next_frame bytes next is = ap items_of (cut-next_frame bytes next.0 next.1 is)

-- bytes that a test found not empty
pub some_bytes : (bytes : List ℕ) (empty : Bool) → empty ≡ (length bytes == 0) → empty ≡ false → 0 < length bytes
some_bytes [] empty is not = absurd cc
some_bytes (b ∷ bytes) empty is not = omega arith

-- a broken frame, and nothing after it
pub items_refused : (bytes : List ℕ) (empty : Bool) (e : DecodeError) → empty ≡ (length bytes == 0) → empty ≡ false → next_frame bytes ≡ Err e
    → items_of (cut bytes) ≡ Err e ∷ items_of (cut [])
items_refused bytes empty e is not h =
    ap items_of (cut_refused bytes e (some_bytes bytes empty is not) h) ∙ ap (λ (rest : List (Outcome Frame)). refused e ∷ rest) (sym items-nil)

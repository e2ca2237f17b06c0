-- The law of cutting: `cut` is the grammar of frames.
use Rattle.std.proofs.Common.{◌≡◌, ◌⊎◌, ℕ, ◌+◌, ◌<◌, ◌≤◌, List, [], ◌∷◌, ◌++◌, length, Option, Some, None, Ok, Err, refl, sym, ap, subst, ◌∙◌, arith, inl, inr}
use Rattle.std.proofs.lemmas.List.{append-nil, length-append}
use Rattle.nla_frames.specs.declared.error.DecodeError.{DecodeError}
use Rattle.nla_frames.specs.Value.{IsBytes}
use Rattle.nla_frames.specs.Frame.{Frame, padding}
use Rattle.nla_frames.specs.Grammar.{Begins, Ends, AreFrames, AreFramesAndRest, IsBroken, CutsUp}
use Rattle.nla_frames.specs.Cutting.{Cutting, nothing_cut, cut_ended, before_cut, cut, next_frame}
use Rattle.nla_frames.proofs.Front.{Front, Front-Begins, Front-Ends, Ends-Front, next_frame-Front, length-header}
use Rattle.nla_frames.proofs.NextFrame.{Front-next_frame, IsBytes-next_frame, next_frame-IsBroken, IsBroken-next_frame, length-IsBroken}
use Rattle.nla_frames.proofs.CutSteps.{cut-nil, cut-next_frame, cut_refused, by_frames}

-- ---- the grammar holds

-- a frame takes four bytes at least
length-Begins : (bytes : List ℕ) (f : Frame) (after : List ℕ) → Begins bytes f after → 4 + length after ≤ length bytes
length-Begins bytes f after b = omega (arith, ap length b.parts, length-header (length f.value) f.word, length-append {A = ℕ})

-- the last one too
length-Ends : (bytes : List ℕ) (f : Frame) → Ends bytes f → 4 ≤ length bytes
length-Ends bytes f e = omega (arith, ap length e.parts, length-header (length f.value) f.word, length-append {A = ℕ})

-- no bytes are no frames
CutsUp-nil : (fs : List Frame) (fault : Option DecodeError) → CutsUp [] fs fault → (fs ≡ []) × (fault ≡ None)
CutsUp-nil [] None c = (refl, refl)
CutsUp-nil [] (Some e) c = absurd (omega (arith, length-IsBroken c.0 e c.2, ap length c.1))
CutsUp-nil (f ∷ []) None c = absurd (omega (arith, length-Ends [] f c))
CutsUp-nil (f ∷ g ∷ fs) None c = absurd (omega (arith, length-Begins [] f c.0 c.1))
CutsUp-nil (f ∷ fs) (Some e) c = absurd (omega (arith, length-Begins [] f c.1.0 c.1.1))

-- a frame with its full padding and nothing after it is the last one
Ends-Begins : (bytes : List ℕ) (f : Frame) → Begins bytes f [] → Ends bytes f
Ends-Begins bytes f b = Ends-Front bytes f (Front-Begins bytes f [] b)

-- a frame with its full padding before what is cut
pub CutsUp-Begins : (bytes : List ℕ) (f : Frame) (after : List ℕ) (fs : List Frame) (fault : Option DecodeError) → Begins bytes f after → CutsUp after fs fault
    → CutsUp bytes (f ∷ fs) fault
CutsUp-Begins bytes f after [] None b c = Ends-Begins bytes f (subst (λ (t : List ℕ). Begins bytes f t) c b)
CutsUp-Begins bytes f after (g ∷ fs) None b c = (after, b, c)
CutsUp-Begins bytes f after fs (Some e) b c = (c.0, (after, b, c.1), c.2)

-- any frame that is at the front before what is cut
CutsUp-Front : (bytes : List ℕ) (f : Frame) (after : List ℕ) (fs : List Frame) (fault : Option DecodeError) → Front bytes f after → CutsUp after fs fault
    → CutsUp bytes (f ∷ fs) fault
CutsUp-Front bytes f after fs fault front c = go front.full_or_last
  where
    go : ((length front.pad ≡ padding (length f.value)) ⊎ (after ≡ [])) → CutsUp bytes (f ∷ fs) fault
    go (inl full) = CutsUp-Begins bytes f after fs fault (record { frame = front.frame; pad = front.pad; full = full; parts = front.parts }) c
    go (inr last) =
        let ends = Ends-Front bytes f (subst (λ (t : List ℕ). Front bytes f t) last front) in
        let nothing = CutsUp-nil fs fault (subst (λ (t : List ℕ). CutsUp t fs fault) last c) in
        rw (nothing.0, nothing.1) ends

-- what is cut meets the grammar
pub cuts : (bytes : List ℕ) → IsBytes bytes → CutsUp bytes (cut bytes).frames (cut bytes).fault
cuts = by_frames (λ (bytes : List ℕ). IsBytes bytes → CutsUp bytes (cut bytes).frames (cut bytes).fault) none broken more
  where
    none : IsBytes [] → CutsUp [] (cut []).frames (cut []).fault
    none is = subst (λ (c : Cutting). CutsUp [] c.frames c.fault) (sym cut-nil) refl

    broken : (bytes : List ℕ) (e : DecodeError) → 0 < length bytes → next_frame bytes ≡ Err e → IsBytes bytes
        → CutsUp bytes (cut bytes).frames (cut bytes).fault
    broken bytes e some refused is =
        subst (λ (c : Cutting). CutsUp bytes c.frames c.fault) (sym (cut_refused bytes e some refused)) (bytes, refl, IsBroken-next_frame bytes e some refused)

    more : (bytes : List ℕ) (f : Frame) (after : List ℕ) → next_frame bytes ≡ Ok (f, after)
        → (IsBytes after → CutsUp after (cut after).frames (cut after).fault) → IsBytes bytes → CutsUp bytes (cut bytes).frames (cut bytes).fault
    more bytes f after e later is =
        let bytes_after = (IsBytes-next_frame bytes f after is e).1 in
        let whole = CutsUp-Front bytes f after (cut after).frames (cut after).fault (Front-next_frame bytes f after is e) (later bytes_after) in
        subst (λ (c : Cutting). CutsUp bytes c.frames c.fault) (sym (cut-next_frame bytes f after e)) whole

-- ---- nothing else meets the grammar

-- a frame with its full padding is cut first
pub cut-Begins : (bytes : List ℕ) (f : Frame) (after : List ℕ) → Begins bytes f after → cut bytes ≡ before_cut f (cut after)
cut-Begins bytes f after b = cut-next_frame bytes f after (next_frame-Front bytes f after (Front-Begins bytes f after b))

-- the last frame is all that is cut
pub cut-Ends : (bytes : List ℕ) (f : Frame) → Ends bytes f → cut bytes ≡ before_cut f nothing_cut
cut-Ends bytes f e = cut-next_frame bytes f [] (next_frame-Front bytes f [] (Front-Ends bytes f e)) ∙ ap (before_cut f) cut-nil

-- of a broken frame nothing is cut
pub cut-IsBroken : (rest : List ℕ) (e : DecodeError) → IsBroken rest e → cut rest ≡ cut_ended e
cut-IsBroken rest e b = cut_refused rest e (length-IsBroken rest e b) (next_frame-IsBroken rest e b)

-- frames before a cutting
abbrev pub all_before : List Frame → Cutting → Cutting
all_before fs c = record { frames = fs ++ c.frames; fault = c.fault }

-- what is cut after frames that are padded in full
pub cut-AreFramesAndRest : (bytes : List ℕ) (fs : List Frame) (rest : List ℕ) → AreFramesAndRest bytes fs rest → cut bytes ≡ all_before fs (cut rest)
cut-AreFramesAndRest bytes [] rest c = ap cut c
cut-AreFramesAndRest bytes (f ∷ fs) rest c = cut-Begins bytes f c.0 c.1 ∙ ap (before_cut f) (cut-AreFramesAndRest c.0 fs rest c.2)

-- of frames all are cut, with no fault
cut-AreFrames : (bytes : List ℕ) (fs : List Frame) → AreFrames bytes fs → cut bytes ≡ record { frames = fs; fault = None }
cut-AreFrames bytes [] h = ap cut h ∙ cut-nil
cut-AreFrames bytes (f ∷ []) h = cut-Ends bytes f h
cut-AreFrames bytes (f ∷ g ∷ fs) h = cut-Begins bytes f h.0 h.1 ∙ ap (before_cut f) (cut-AreFrames h.0 (g ∷ fs) h.2)

-- what meets the grammar is what is cut
pub cut-is : (bytes : List ℕ) (fs : List Frame) (fault : Option DecodeError) → CutsUp bytes fs fault → cut bytes ≡ record { frames = fs; fault = fault }
cut-is bytes fs None c = cut-AreFrames bytes fs c
cut-is bytes fs (Some e) c = cut-AreFramesAndRest bytes fs c.0 c.1 ∙ ap (all_before fs) (cut-IsBroken c.0 e c.2)
    ∙ ap (λ (gs : List Frame). record { frames = gs; fault = Some e }) (append-nil fs)

-- Frames that are padded in full: such bytes one after the other are their frames one after the other.
use Rattle.std.proofs.Common.{◌≡◌, ℕ, List, [], ◌∷◌, ◌++◌, length, None, Ok, refl, sym, ap, subst, ◌∙◌, append_assoc}
use Rattle.nla_frames.specs.Frame.{Frame, header}
use Rattle.nla_frames.specs.Grammar.{Begins, AreFrames, AreFramesAndRest}
use Rattle.nla_frames.specs.Cutting.{Cutting, cut}
use Rattle.nla_frames.specs.Place.{Sets}
use Rattle.nla_frames.specs.Reading.{Reads, read_list}
use Rattle.nla_frames.specs.ListGrammar.{ListReads}
use Rattle.nla_frames.proofs.CuttingLaws.{CutsUp-Begins, cut-is}
use Rattle.nla_frames.proofs.ListLaws.{ReadInTurn-read_list}
use Rattle.nla_frames.proofs.ReadEach.{ReadInTurn, ReadInTurn-ReadEach, ReadEach-ReadInTurn}
use Rattle.tc_laws.specs.Order.{InFull}

-- more bytes after the parts of a frame and what follows it
parts-append : (head value pad after more : List ℕ) → (head ++ (value ++ (pad ++ after))) ++ more ≡ head ++ (value ++ (pad ++ (after ++ more)))
parts-append head value pad after more =
    append_assoc head (value ++ (pad ++ after)) more
    ∙ ap (λ (t : List ℕ). head ++ t) (append_assoc value (pad ++ after) more ∙ ap (λ (t : List ℕ). value ++ t) (append_assoc pad after more))

-- the same of a frame
Begins-append : (bytes : List ℕ) (f : Frame) (after more : List ℕ) → Begins bytes f after → Begins (bytes ++ more) f (after ++ more)
Begins-append bytes f after more b = record {
  frame = b.frame;
  pad = b.pad;
  full = b.full;
  parts = ap (λ (t : List ℕ). t ++ more) b.parts ∙ parts-append (header (length f.value) f.word) f.value b.pad after more;
}

-- more bytes after frames and a rest
AreFramesAndRest-append : (bytes : List ℕ) (fs : List Frame) (rest more : List ℕ) → AreFramesAndRest bytes fs rest
    → AreFramesAndRest (bytes ++ more) fs (rest ++ more)
AreFramesAndRest-append bytes [] rest more c = ap (λ (t : List ℕ). t ++ more) c
AreFramesAndRest-append bytes (f ∷ fs) rest more c = (c.0 ++ more, Begins-append bytes f c.0 more c.1, AreFramesAndRest-append c.0 fs rest more c.2)

-- frames, and the frames of their rest
AreFramesAndRest-AreFramesAndRest : (bytes : List ℕ) (fs : List Frame) (rest : List ℕ) (gs : List Frame) (last : List ℕ) → AreFramesAndRest bytes fs rest
    → AreFramesAndRest rest gs last
    → AreFramesAndRest bytes (fs ++ gs) last
AreFramesAndRest-AreFramesAndRest bytes [] rest gs last c d = subst (λ (t : List ℕ). AreFramesAndRest t gs last) (sym c) d
AreFramesAndRest-AreFramesAndRest bytes (f ∷ fs) rest gs last c d = (c.0, c.1, AreFramesAndRest-AreFramesAndRest c.0 fs rest gs last c.2 d)

-- one after the other
pub InFull-append : (front back : List ℕ) (fs gs : List Frame) → InFull front fs → InFull back gs → InFull (front ++ back) (fs ++ gs)
InFull-append front back fs gs c d = AreFramesAndRest-AreFramesAndRest (front ++ back) fs back gs [] (AreFramesAndRest-append front fs [] back c) d

-- a frame in full before others and a rest
Begins-parts : (bytes : List ℕ) (f : Frame) (front back : List ℕ) → Begins bytes f (front ++ back)
    → (whole : List ℕ) × (bytes ≡ whole ++ back) × Begins whole f front
Begins-parts bytes f front back b =
    let head = header (length f.value) f.word in (
      head ++ (f.value ++ (b.pad ++ front)),
      b.parts ∙ sym (parts-append head f.value b.pad front back),
      record { frame = b.frame; pad = b.pad; full = b.full; parts = refl },
    )

-- and the first of them, and the others
pub InFull-parts : (bytes : List ℕ) (fs gs : List Frame) → InFull bytes (fs ++ gs)
    → (front back : List ℕ) × (bytes ≡ front ++ back) × InFull front fs × InFull back gs
InFull-parts bytes [] gs c = ([], bytes, refl, refl, c)
InFull-parts bytes (f ∷ fs) gs c =
    let others = InFull-parts c.0 fs gs c.2 in
    let first = Begins-parts bytes f others.0 others.1 (subst (λ (t : List ℕ). Begins bytes f t) others.2 c.1) in
    (first.0, others.1, first.1, (others.0, first.2, others.3), others.4)

-- they are frames
pub AreFrames-InFull : (bytes : List ℕ) (fs : List Frame) → InFull bytes fs → AreFrames bytes fs
AreFrames-InFull bytes [] c = c
AreFrames-InFull bytes (f ∷ fs) c = CutsUp-Begins bytes f c.0 fs None c.1 (AreFrames-InFull c.0 fs c.2)

-- and all that is cut
cut-InFull : (bytes : List ℕ) (fs : List Frame) → InFull bytes fs → cut bytes ≡ record { frames = fs; fault = None }
cut-InFull bytes fs full = cut-is bytes fs None (AreFrames-InFull bytes fs full)

-- a list of such frames reads as values exactly when the frames read as them in turn
module _ {X : Type 0} (reads : Reads X) (sets : Sets Frame) (first bytes : List ℕ) (fs : List Frame) (full : InFull bytes fs) (xs : List X) where
  pub ReadInTurn-ListReads : ListReads reads sets first bytes xs → ReadInTurn reads sets first fs xs
  ReadInTurn-ListReads (gs, frames, each) =
      let same : gs ≡ fs = ap (λ (c : Cutting). c.frames) (sym (cut-is bytes gs None frames) ∙ cut-InFull bytes fs full) in
      subst (λ (hs : List Frame). ReadInTurn reads sets first hs xs) same (ReadInTurn-ReadEach reads sets first gs xs each)

  pub ListReads-ReadInTurn : ReadInTurn reads sets first fs xs → ListReads reads sets first bytes xs
  ListReads-ReadInTurn turn = (fs, AreFrames-InFull bytes fs full, ReadEach-ReadInTurn reads sets first fs xs turn)

  -- what the function reads is in the grammar
  pub ListReads-function : read_list reads sets first bytes ≡ Ok xs → ListReads reads sets first bytes xs
  ListReads-function is =
      let turn = ReadInTurn-read_list reads sets first bytes xs is in
      ListReads-ReadInTurn (subst (λ (c : Cutting). ReadInTurn reads sets first c.frames xs) (cut-InFull bytes fs full) turn.1)

-- Lists of frames that are padded with zeros: one frame more, the end, and bytes that begin with no frame.
use Rattle.std.proofs.Common.{◌≡◌, ℕ, ◌<◌, List, [], ◌∷◌, ◌++◌, length, drop, refl, sym, ap, ◌∙◌, arith, ◌↔◌, ◌==◌, Bool, true, false}
use Rattle.std.proofs.lemmas.Bool.{eqb-true}
use Rattle.std.proofs.lemmas.List.{nil_from_length}
use Rattle.std.specs.List.{AllByRecursion, flat_map}
use Rattle.std.proofs.Math.Seq.{drop-append_seam}
use Rattle.nla_frames.specs.Frame.{Frame, IsFrame, frame_bytes}
use Rattle.nla_frames.specs.Place.{Sets, kind_then}
use Rattle.nla_frames.proofs.Items.{some_bytes}
use Rattle.tc_canon.specs.Front.{StartsPadded}
use Rattle.tc_canon.specs.Canonical.{IsPaddedList, IsCanonAt, CanonEach, IsCanonList}
use Rattle.tc_canon.proofs.Fronts.{front-padded, starts-length}

-- the frame at the front, and what follows it, are one
same-frame : (bytes after rest : List ℕ) (f g : Frame) → StartsPadded bytes f after → StartsPadded bytes g rest → f ≡ g
same-frame bytes after rest f g one other = let a = front-padded bytes after f one in let b = front-padded bytes rest g other in cc

-- so is what comes after
same-after : (bytes after rest : List ℕ) (f : Frame) → StartsPadded bytes f after → StartsPadded bytes f rest → after ≡ rest
same-after bytes after rest f one other =
    sym (drop-append_seam (frame_bytes f) after) ∙ ap (drop (length (frame_bytes f))) (sym one.parts ∙ other.parts) ∙ drop-append_seam (frame_bytes f) rest

module _ (Holds : List Frame → Type 0) where
  -- one frame more
  pub list-more : (bytes after : List ℕ) (f : Frame) → StartsPadded bytes f after → IsPaddedList Holds bytes ↔ IsPaddedList (λ fs. Holds (f ∷ fs)) after
  list-more bytes after f starts = (
    λ p. go p.list p.frames p.whole p.holds,
    λ q. record {
      list = f ∷ q.list;
      frames = (starts.frame, q.frames);
      whole = starts.parts ∙ ap (λ (x : List ℕ). frame_bytes f ++ x) q.whole;
      holds =
          q.holds;
    },
  )
    where
      go : (fs : List Frame) → AllByRecursion IsFrame fs → bytes ≡ flat_map frame_bytes fs → Holds fs → IsPaddedList (λ gs. Holds (f ∷ gs)) after
      go [] frames whole holds = absurd (omega (arith, starts-length bytes after f starts, ap length whole))
      go (g ∷ fs) frames whole holds =
          let first : StartsPadded bytes g (flat_map frame_bytes fs) = record { frame = frames.0; parts = whole } in
          let same : f ≡ g = same-frame bytes after (flat_map frame_bytes fs) f g starts first in
          record {
            list = fs;
            frames = frames.1;
            whole = same-after bytes after (flat_map frame_bytes fs) g (rw (← same) starts) first;
            holds = rw same holds;
          }

  -- no bytes have no frames
  pub list-end : IsPaddedList Holds [] ↔ Holds []
  list-end = (λ p. go p.list p.frames p.whole p.holds, λ h. record { list = []; frames = tt; whole = refl; holds = h })
    where
      go : (fs : List Frame) → AllByRecursion IsFrame fs → [] ≡ flat_map frame_bytes fs → Holds fs → Holds []
      go [] frames whole holds = holds
      go (g ∷ fs) frames whole holds = absurd (omega (arith, starts-length [] (flat_map frame_bytes fs) g (record { frame = frames.0; parts = whole })))

  -- bytes that begin with no frame are no list
  pub list-stuck : (bytes : List ℕ) → 0 < length bytes → ((f : Frame) (after : List ℕ) → StartsPadded bytes f after → ⊥) → IsPaddedList Holds bytes → ⊥
  list-stuck bytes some none p = go p.list p.frames p.whole
    where
      go : (fs : List Frame) → AllByRecursion IsFrame fs → bytes ≡ flat_map frame_bytes fs → ⊥
      go [] frames whole = omega (arith, ap length whole)
      go (g ∷ fs) frames whole = none g (flat_map frame_bytes fs) (record { frame = frames.0; parts = whole })

-- what follows a frame is shorter
pub front-shorter : (bytes after : List ℕ) (f : Frame) → StartsPadded bytes f after → length after < length bytes
front-shorter bytes after f starts = omega (arith, starts-length bytes after f starts)

-- ---- the steps of a loop over a canonical list: what is asked of the whole is asked of the rest

module _ (Canon : IsCanonAt) (sets : Sets Frame) (k : List ℕ) (rest : List ℕ) (Whole : Type 0) (so_far : Whole ↔ IsCanonList Canon sets k rest) where
  -- a canonical frame
  pub list-goes_on : (after : List ℕ) (f : Frame) → StartsPadded rest f after → Canon k f → Whole ↔ IsCanonList Canon sets (kind_then sets k f) after
  list-goes_on after f starts canonical = (λ w. go (more.0 (so_far.0 w)), λ p. so_far.1 (more.1 (back p)))
    where
      more : IsPaddedList (CanonEach Canon sets k) rest ↔ IsPaddedList (λ fs. CanonEach Canon sets k (f ∷ fs)) after
      more = list-more (CanonEach Canon sets k) rest after f starts

      go : IsPaddedList (λ fs. CanonEach Canon sets k (f ∷ fs)) after → IsCanonList Canon sets (kind_then sets k f) after
      go p = record { list = p.list; frames = p.frames; whole = p.whole; holds = p.holds.1 }

      back : IsCanonList Canon sets (kind_then sets k f) after → IsPaddedList (λ fs. CanonEach Canon sets k (f ∷ fs)) after
      back p = record { list = p.list; frames = p.frames; whole = p.whole; holds = (canonical, p.holds) }

  -- a frame that is not canonical
  pub list-refuses : (after : List ℕ) (f : Frame) → StartsPadded rest f after → (Canon k f → ⊥) → Whole → ⊥
  list-refuses after f starts not w = not ((list-more (CanonEach Canon sets k) rest after f starts).0 (so_far.0 w)).holds.0

  -- no frame
  pub list-breaks : 0 < length rest → ((f : Frame) (after : List ℕ) → StartsPadded rest f after → ⊥) → Whole → ⊥
  list-breaks some none w = list-stuck (CanonEach Canon sets k) rest some none (so_far.0 w)

  -- fewer bytes than a header has are the end, or no list
  pub list-too_short : (empty : Bool) → empty ≡ (length rest == 0) → length rest < 4 → (empty ≡ true) ↔ Whole
  list-too_short true is short =
      let none : rest ≡ [] = nil_from_length rest (eqb-true _ _ (sym is)) in
      (λ e. so_far.1 (rw none ((list-end (CanonEach Canon sets k)).1 tt)), λ w. refl)
  list-too_short false is short = (
    λ e. absurd cc,
    λ w. absurd (list-breaks (some_bytes rest false is refl) (λ f after starts. absurd (omega (arith, starts-length rest after f starts))) w),
  )

-- bytes are one list of frames
pub same-frames : (fs gs : List Frame) → AllByRecursion IsFrame fs → AllByRecursion IsFrame gs → flat_map frame_bytes fs ≡ flat_map frame_bytes gs → fs ≡ gs
same-frames [] [] all_f all_g same = refl
same-frames [] (g ∷ gs) all_f all_g same = absurd (omega (arith, starts-length [] (flat_map frame_bytes gs) g (record { frame = all_g.0; parts = same })))
same-frames (f ∷ fs) [] all_f all_g same = absurd (omega (arith, starts-length [] (flat_map frame_bytes fs) f (record { frame = all_f.0; parts = sym same })))
same-frames (f ∷ fs) (g ∷ gs) all_f all_g same =
    let bytes = flat_map frame_bytes (f ∷ fs) in
    let one : StartsPadded bytes f (flat_map frame_bytes fs) = record { frame = all_f.0; parts = refl } in
    let other : StartsPadded bytes g (flat_map frame_bytes gs) = record { frame = all_g.0; parts = same } in
    let heads : f ≡ g = same-frame bytes _ _ f g one other in
    let tails = same-after bytes _ _ g (rw (← heads) one) other in
    let rest = same-frames fs gs all_f.1 all_g.1 tails in
    rw (heads, rest) refl

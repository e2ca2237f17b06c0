-- The one kind that the frames of an action set, found in a loop.
use Rattle.std.proofs.Common.{◌≡◌, ℕ, ◌<◌, Bool, true, false, List, [], ◌∷◌, ◌++◌, length, refl, sym, ap, ◌∙◌, ◌↔◌, Bor, Option, Some, None, MatchOption}
use Rattle.std.proofs.Common.{IsTrue}
use Rattle.std.proofs.lemmas.Bool.{ne_eqb}
use Rattle.std.proofs.Common.{eq-eqb, is_some}
use Rattle.nla_frames.specs.Value.{strip}
use Rattle.nla_frames.specs.Frame.{Frame, type_of}
use Rattle.nla_frames.specs.Reading.{keep}
use Rattle.tc_canon.specs.Front.{StartsPadded}
use Rattle.tc_canon.specs.Kind.{is_kind_frame, kinds_of_frames, SetsOneKind}
use Rattle.tc_canon.specs.Canonical.{IsPaddedList, IsCanonAt, CanonEach, IsCanonList, IsCanonOwn}
use Rattle.tc_canon.proofs.PaddedLists.{list-more, list-end, list-stuck, same-frames}

-- the kind that was set so far, if any
abbrev pub kind_so_far : Option (Bor (List ℕ)) → List (List ℕ)
kind_so_far None = []
kind_so_far (Some own) = own.now ∷ []

-- the frames set one kind together with the kinds before them
abbrev pub SetsOneKindAfter : List (List ℕ) → List ℕ → List ℕ → Type 0
SetsOneKindAfter before own bytes = IsPaddedList (λ fs. before ++ kinds_of_frames fs ≡ own ∷ []) bytes

-- another fact of the same frames
change : {P Q : List Frame → Type 0} (bytes : List ℕ) → ((fs : List Frame) → P fs → Q fs) → IsPaddedList P bytes → IsPaddedList Q bytes
change bytes f p = record { list = p.list; frames = p.frames; whole = p.whole; holds = f p.list p.holds }

-- a frame that sets a kind
kinds-more : (f : Frame) (fs : List Frame) → is_kind_frame f ≡ true → kinds_of_frames (f ∷ fs) ≡ strip f.value ∷ kinds_of_frames fs
kinds-more f fs e = rw e refl

-- a frame that sets none
kinds-same : (f : Frame) (fs : List Frame) → is_kind_frame f ≡ false → kinds_of_frames (f ∷ fs) ≡ kinds_of_frames fs
kinds-same f fs e = rw e refl

-- several kinds are not one
two-kinds : (o : Option (Bor (List ℕ))) (t own : List ℕ) (ts : List (List ℕ)) → true ≡ is_some o → kind_so_far o ++ (t ∷ ts) ≡ own ∷ [] → ⊥
two-kinds None t own ts some e = absurd cc
two-kinds (Some k) t own ts some e = absurd cc

-- no kind was set yet
none-so-far : (o : Option (Bor (List ℕ))) → false ≡ is_some o → kind_so_far o ≡ []
none-so-far None none = refl
none-so-far (Some k) none = absurd cc

-- ---- the steps of a loop over the frames of an action: the kinds of the whole are those before and those of the rest

module _ (Whole : List ℕ → Type 0) (o : Option (Bor (List ℕ))) (rest : List ℕ) (so_far : (own : List ℕ) → Whole own ↔ SetsOneKindAfter (kind_so_far o) own rest) where
  module _ (after : List ℕ) (f : Frame) (starts : StartsPadded rest f after) (n : ℕ) (is : n ≡ type_of f.word) where
    -- a frame of another type
    pub own-passes : (n ≡ 1 → ⊥) → (own : List ℕ) → Whole own ↔ SetsOneKindAfter (kind_so_far o) own after
    own-passes other own =
        let sets : is_kind_frame f ≡ false = ne_eqb (type_of f.word) 1 (λ e. other (is ∙ e)) in
        let more = list-more (λ fs. kind_so_far o ++ kinds_of_frames fs ≡ own ∷ []) rest after f starts in (
          λ w. change after (λ fs e. ap (λ (ts : List (List ℕ)). kind_so_far o ++ ts) (sym (kinds-same f fs sets)) ∙ e) (more.0 ((so_far own).0 w)),
          λ p. (so_far own).1 (more.1 (change after (λ fs e. ap (λ (ts : List (List ℕ)). kind_so_far o ++ ts) (kinds-same f fs sets) ∙ e) p)),
        )

    -- a frame of type 1 sets a kind
    is-kind : n ≡ 1 → is_kind_frame f ≡ true
    is-kind one = eq-eqb (type_of f.word) 1 (sym is ∙ one)

    -- the first frame that sets a kind
    pub own-found : (value text : List ℕ) → false ≡ is_some o → n ≡ 1 → value ≡ f.value → text ≡ strip value → (own : List ℕ)
        → Whole own ↔ SetsOneKindAfter (text ∷ []) own after
    own-found value text none one is_value is_text own =
        let more = list-more (λ fs. kind_so_far o ++ kinds_of_frames fs ≡ own ∷ []) rest after f starts in
        let same = λ (fs : List Frame). kinds-one value text none one is_value is_text fs in (
          λ w. change after (λ fs e. sym (same fs) ∙ e) (more.0 ((so_far own).0 w)),
          λ p. (so_far own).1 (more.1 (change after (λ fs e. same fs ∙ e) p)),
        )
      where
        kinds-one : (value text : List ℕ) → false ≡ is_some o → n ≡ 1 → value ≡ f.value → text ≡ strip value → (fs : List Frame)
            → kind_so_far o ++ kinds_of_frames (f ∷ fs) ≡ text ∷ kinds_of_frames fs
        kinds-one value text none one is_value is_text fs =
            let before : kinds_of_frames (f ∷ fs) ≡ strip f.value ∷ kinds_of_frames fs = kinds-more f fs (is-kind one) in
            let texts : strip f.value ≡ text = ap strip (sym is_value) ∙ sym is_text in
            ap (λ (ts : List (List ℕ)). ts ++ kinds_of_frames (f ∷ fs)) (none-so-far o none) ∙ before ∙ ap (λ (t : List ℕ). t ∷ kinds_of_frames fs) texts

    -- a second one
    pub own-twice : true ≡ is_some o → n ≡ 1 → (own : List ℕ) → Whole own → ⊥
    own-twice some one own w =
        let p = (list-more (λ fs. kind_so_far o ++ kinds_of_frames fs ≡ own ∷ []) rest after f starts).0 ((so_far own).0 w) in
        two-kinds o (strip f.value) own (kinds_of_frames p.list) some
        (ap (λ (ts : List (List ℕ)). kind_so_far o ++ ts) (sym (kinds-more f p.list (is-kind one))) ∙ p.holds)

  -- no frame
  pub own-breaks : 0 < length rest → ((f : Frame) (after : List ℕ) → StartsPadded rest f after → ⊥) → (own : List ℕ) → Whole own → ⊥
  own-breaks some none own w = list-stuck (λ fs. kind_so_far o ++ kinds_of_frames fs ≡ own ∷ []) rest some none ((so_far own).0 w)

-- no frame is left
pub own-ends : (Whole : List ℕ → Type 0) (o : Option (Bor (List ℕ))) (rest : List ℕ) → ((own : List ℕ) → Whole own ↔ SetsOneKindAfter (kind_so_far o) own rest)
    → rest ≡ []
    → MatchOption o ((own : List ℕ) → Whole own → ⊥) (λ own. Whole own.now)
own-ends Whole None rest so_far none = λ own w. no-kinds own ((list-end (λ fs. kinds_of_frames fs ≡ own ∷ [])).0 (rw none at ((so_far own).0 w)))
  where
    no-kinds : (own : List ℕ) → [] ≡ own ∷ [] → ⊥
    no-kinds own e = absurd cc
own-ends Whole (Some k) rest so_far none = (so_far k.now).1 (rw none ((list-end (λ fs. k.now ∷ kinds_of_frames fs ≡ k.now ∷ [])).1 refl))

-- an action whose frames set this kind is canonical exactly when its list is canonical under it
module _ (Canon : IsCanonAt) (value own : List ℕ) (sets : IsPaddedList (λ fs. SetsOneKind fs own) value) where
  -- no other kind is set
  same-own : (k : List ℕ) (fs : List Frame) → sets.list ≡ fs → SetsOneKind fs k → own ≡ k
  same-own k fs same e = let t = sets.holds in let u : kinds_of_frames sets.list ≡ k ∷ [] = rw same e in cc

  -- the list under this kind decides
  pub own-decides : (b : Bool) → IsTrue b ↔ IsCanonList Canon keep own value → IsTrue b ↔ IsCanonOwn Canon value
  own-decides b test = (λ t. (own, go (test.0 t)), λ p. test.1 (back p.0 p.1))
    where
      go : IsCanonList Canon keep own value → IsPaddedList (λ fs. SetsOneKind fs own × CanonEach Canon keep own fs) value
      go p =
          let same : sets.list ≡ p.list = same-frames _ _ sets.frames p.frames (sym sets.whole ∙ p.whole) in
          record { list = p.list; frames = p.frames; whole = p.whole; holds = (rw same at sets.holds, p.holds) }

      back : (k : List ℕ) → IsPaddedList (λ fs. SetsOneKind fs k × CanonEach Canon keep k fs) value → IsCanonList Canon keep own value
      back k p =
          let same : sets.list ≡ p.list = same-frames _ _ sets.frames p.frames (sym sets.whole ∙ p.whole) in
          let kinds : own ≡ k = same-own k p.list same p.holds.0 in
          record { list = p.list; frames = p.frames; whole = p.whole; holds = rw kinds p.holds.1 }

-- an action whose frames set no kind, or several, is not canonical
pub own-none : (Canon : IsCanonAt) (value : List ℕ) → ((own : List ℕ) → IsPaddedList (λ fs. SetsOneKind fs own) value → ⊥) → IsTrue false ↔ IsCanonOwn Canon value
own-none Canon value none = (λ t. absurd cc, λ p. absurd (none p.0 (change value (λ fs h. h.0) p.1)))

-- The steps of the iterator: the items left when a list is entered, stepped through and finished.
use Rattle.std.proofs.Common.{◌≡◌, ◌⊎◌, ℕ, suc, ◌+◌, ◌-◌, ◌<◌, ◌≤◌, List, [], ◌∷◌, ◌++◌, length, take, drop, get_or, set, Option, Some, None, Ok, Err, refl, sym, ap, ap₂, subst, ◌∙◌, arith, inl, inr}
use Rattle.std.proofs.Common.{append_assoc, add-zero, zero-add, add-one, false}
use Rattle.std.specs.Prelude.{◌==◌}
use Rattle.std.proofs.lemmas.Bool.{ne_eqb}
use Rattle.std.proofs.lemmas.List.{take_more, take_more_set, length-take-le, append-nil}
use Rattle.nla_frames.specs.declared.error.DecodeError.{DecodeError}
use Rattle.nla_frames.specs.Fault.{Outcome, refused}
use Rattle.nla_frames.specs.Frame.{Frame, frame_length}
use Rattle.nla_frames.specs.Buffer.{first_of}
use Rattle.nla_frames.specs.Place.{Sets, kind_then}
use Rattle.nla_frames.specs.Reading.{keep}
use Rattle.nla_frames.specs.Cutting.{next_frame, cut, items_of}
use Rattle.nla_frames.proofs.Items.{items-nil, items-next_frame, items_refused}
use Rattle.tc_canon.specs.Descriptor.{Table}
use Rattle.tc_index.specs.declared.level.Level.{Level}
use Rattle.tc_index.specs.declared.attributes.Attributes.{Attributes}
use Rattle.tc_index.specs.Attributes.{Placed, Item, Yields, each, within, with_inner, attributes_in}
use Rattle.tc_index.specs.Views.{inner_of, left_in, levels_left, items_left}
use Rattle.tc_index.proofs.Frames.{Takes}

-- an empty list
none-left : (yields : Yields) (sets : Sets Frame) (k : List ℕ) (at : ℕ) (rest : List ℕ) → rest ≡ [] → each yields sets k at (items_of (cut rest)) ≡ []
none-left yields sets k at rest none = rw (none, items-nil) refl

-- so its offset doesn't matter
place : (yields : Yields) (sets : Sets Frame) (k : List ℕ) (a b : ℕ) (rest : List ℕ) → (a ≡ b) ⊎ (rest ≡ [])
    → each yields sets k a (items_of (cut rest)) ≡ each yields sets k b (items_of (cut rest))
place yields sets k a b rest (inl same) = rw same refl
place yields sets k a b rest (inr none) = none-left yields sets k a rest none ∙ sym (none-left yields sets k b rest none)

-- the first frame, and those after it
pub first-yielded : (yields : Yields) (sets : Sets Frame) (k : List ℕ) (at : ℕ) (rest : List ℕ) (f : Frame) (n : ℕ) → Takes rest f n
    → each yields sets k at (items_of (cut rest)) ≡ yields k (at + 4) f ++ each yields sets (kind_then sets k f) (at + n) (items_of (cut (drop n rest)))
first-yielded yields sets k at rest f n takes =
    rw (items-next_frame rest (f, drop n rest) takes.next)
    (ap (λ (items : List Item). yields k (at + 4) f ++ items)
    (place yields sets (kind_then sets k f) (at + frame_length f) (at + n) (drop n rest) (where_is takes.all)))
  where
    where_is : (n ≡ frame_length f) ⊎ (drop n rest ≡ []) → (at + frame_length f ≡ at + n) ⊎ (drop n rest ≡ [])
    where_is (inl same) = inl (ap (λ (x : ℕ). at + x) (sym same))
    where_is (inr none) = inr none

-- a list that isn't empty
some-not : (rest : List ℕ) → 0 < length rest → false ≡ (length rest == 0)
some-not [] some = absurd (omega arith)
some-not (b ∷ rest) some = sym (ne_eqb (suc (length rest)) 0 (λ e. omega arith))

-- a malformed frame
pub fault-yielded : (yields : Yields) (sets : Sets Frame) (k : List ℕ) (at : ℕ) (rest : List ℕ) (e : DecodeError) → 0 < length rest
    → refused {X = Frame} e ≡ first_of (next_frame rest) → each yields sets k at (items_of (cut rest)) ≡ Err (record { offset = at; fault = e }) ∷ []
fault-yielded yields sets k at rest e some first = go (next_frame rest) refl first
  where
    go : (o : Outcome (Frame × List ℕ)) → next_frame rest ≡ o → refused {X = Frame} e ≡ first_of o
        → each yields sets k at (items_of (cut rest)) ≡ Err (record { offset = at; fault = e }) ∷ []
    go (Ok next) found same = absurd cc
    go (Err d) found same =
        let front : e ≡ d = cc in
        rw (items_refused rest false e (some-not rest some) refl (found ∙ ap (λ (x : DecodeError). refused x) (sym front))) refl

-- ---- nested lists

-- one more innermost list
levels-more : (depth : ℕ) (ls : List Level) (l : Level) → levels_left depth (ls ++ l ∷ []) ≡ left_in (depth + length ls) l ++ levels_left depth ls
levels-more depth [] l = rw add-zero (sym (append-nil (left_in depth l)))
levels-more depth (m ∷ ls) l =
    let same : suc depth + length ls ≡ depth + suc (length ls) = omega arith in
    rw (levels-more (suc depth) ls l, same) (append_assoc (left_in (depth + suc (length ls)) l) (levels_left (suc depth) ls) (left_in depth m))

-- from a finished list to the enclosing one
pub leaves : (outer : List Level) (d : ℕ) (level l : Level) → level.rest.now ≡ [] → (d ≡ 0 → ⊥) → d ≤ length outer → l ≡ get_or outer (d - 1) l
    → left_in (d - 1) l ++ levels_left 0 (take (d - 1) outer) ≡ left_in d level ++ levels_left 0 (take d outer)
leaves outer d level l none some inside is =
    let counted : length (take (d - 1) outer) ≡ d - 1 = length-take-le (d - 1) outer (omega arith) in
    let more : d ≡ d - 1 + 1 = omega arith in
    let taken : take d outer ≡ take (d - 1) outer ++ l ∷ [] =
    ap (λ (n : ℕ). take n outer) more ∙ take_more outer (d - 1) l (omega arith) ∙ ap (λ (x : Level). take (d - 1) outer ++ x ∷ []) (sym is) in
    rw (none, items-nil, taken, levels-more 0 (take (d - 1) outer) l, counted, zero-add) refl

-- entering a list
attributes-some : (d : ℕ) (t : Table) (k : List ℕ) (at : ℕ) (bytes : List ℕ) → d < 4
    → attributes_in (4 - d) t k (suc d) at bytes ≡ each (with_inner (attributes_in (4 - (d + 1))) t (d + 1)) keep k at (items_of (cut bytes))
unfolding attributes_in
attributes-some d t k at bytes low = let fuel : 4 - d ≡ suc (4 - (d + 1)) = omega arith in rw (fuel, add-one) refl

pub entered : (d : ℕ) (o : Option (Table × List ℕ)) (t : Table) (k : List ℕ) (at : ℕ) (bytes : List ℕ) → d < 4 → Some (t, k) ≡ o
    → within (attributes_in (4 - d)) o (suc d) at bytes ≡ each (with_inner (attributes_in (4 - (d + 1))) t (d + 1)) keep k at (items_of (cut bytes))
entered d o t k at bytes low is =
    ap (λ (x : Option (Table × List ℕ)). within (attributes_in (4 - d)) x (suc d) at bytes) (sym is) ∙ attributes-some d t k at bytes low

pub enters : (before after : List Level) (d : ℕ) (level inner : Level) (items : List Item) → d < 4 → length before ≡ 4 → after ≡ set before d level
    → items ≡ left_in (d + 1) inner → left_in (d + 1) inner ++ levels_left 0 (take (d + 1) after) ≡ items ++ (left_in d level ++ levels_left 0 (take d before))
enters before after d level inner items low four kept is =
    let counted : length (take d before) ≡ d = length-take-le d before (omega arith) in
    let taken : take (d + 1) after ≡ take d before ++ level ∷ [] =
    ap (λ (ls : List Level). take (d + 1) ls) kept ∙ take_more_set before d level (omega arith) in
    let around : levels_left 0 (take (d + 1) after) ≡ left_in d level ++ levels_left 0 (take d before) =
    ap (levels_left 0) taken ∙ levels-more 0 (take d before) level ∙ rw (counted, zero-add) refl in
    ap₂ (λ (xs ys : List Item). xs ++ ys) (sym is) around

-- a list that is too deep
pub too-deep : (d : ℕ) (o : Option (Table × List ℕ)) (at : ℕ) (bytes : List ℕ) → 4 ≤ d → within (attributes_in (4 - d)) o (suc d) at bytes ≡ []
unfolding attributes_in
too-deep d None at bytes deep = refl
too-deep d (Some list) at bytes deep = let fuel : 4 - d ≡ 0 = omega arith in rw fuel refl

-- an attribute is determined by its abstract value
pub takes-one : (p q : Placed) (depth : ℕ) (list left : List Item) → p ≡ q → list ≡ (Ok q ∷ inner_of depth q) ++ left → list ≡ (Ok p ∷ inner_of depth p) ++ left
takes-one p q depth list left same first = subst (λ (x : Placed). list ≡ (Ok x ∷ inner_of depth x) ++ left) (sym same) first

-- ---- the items that an iterator has left

-- none if every list is finished
pub nothing-left : (it : Attributes) → it.level.rest.now ≡ [] → it.depth ≡ 0 → items_left it ≡ []
nothing-left it none first = rw (none, first, items-nil) refl

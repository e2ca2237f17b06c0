-- Testing the elements of a list, one after the other, for being settled.
use Rattle.std.proofs.Common.{◌≡◌, ◌↔◌, ℕ, ◌+◌, ◌≤◌, List, [], ◌∷◌, length, map, take, drop, refl, sym, ap, subst, ◌∙◌}
use Rattle.std.specs.List.{AllByRecursion}
use Rattle.std.proofs.lemmas.List.{drop_more, drop_all, take_all}
use Rattle.std.proofs.lemmas.List.Elements.{All-more, All-from_recursion, recursion_from_All}
use Rattle.nla_frames.specs.Place.{Sets, kind_then}
use Rattle.nla_frames.specs.Codec.{SettledEach}
use Rattle.nla_frames.proofs.ListWriting.{IsAt}

-- what is settled of the values that are seen is so of the elements
pub settled_seen : {Y X : Type 0} (see : Y → X) (Settled : List ℕ → X → Type 0) (sets : Sets X) (kind : List ℕ) (items : List Y)
    → SettledEach Settled sets kind (map see items) ≡ SettledEach (λ k y. Settled k (see y)) (λ y. sets (see y)) kind items
settled_seen see Settled sets kind [] = refl
settled_seen see Settled sets kind (y ∷ items) = ap (λ rest. Settled kind (see y) × rest) (settled_seen see Settled sets (kind_then sets kind (see y)) items)

-- and so is what holds of each
pub all_seen : {Y X : Type 0} (see : Y → X) (P : X → Type 0) (items : List Y) → AllByRecursion P (map see items) ≡ AllByRecursion (λ y. P (see y)) items
all_seen see P [] = refl
all_seen see P (y ∷ items) = ap (λ rest. P (see y) × rest) (all_seen see P items)

module _ {Y : Type 0} (Typed : Y → Type 0) (Settled : List ℕ → Y → Type 0) (sets : Sets Y) (first : List ℕ) (items : List Y) where
  -- each element before an index is typed, and those from there on are settled exactly when all are
  pub record SettledSoFar (kind : List ℕ) (i : ℕ) : Type 0 where
    pub typed : AllByRecursion Typed (take i items)
    pub left : SettledEach Settled sets kind (drop i items) ↔ SettledEach Settled sets first items

  -- before the first
  pub settled_start : SettledSoFar first 0
  settled_start = record { typed = tt; left = (λ s. s, λ s. s) }

  module _ {i : ℕ} {item : Y} (here : IsAt items i item) where
    -- what is left begins with the element at the index
    left_from : drop i items ≡ item ∷ drop (i + 1) items
    left_from = drop_more items i item here.within ∙ ap (λ y. y ∷ drop (i + 1) items) (sym here.is)

    -- after an element that is settled
    pub settled_next : (kind : List ℕ) → SettledSoFar kind i → Typed item → Settled kind item → SettledSoFar (kind_then sets kind item) (i + 1)
    settled_next kind before typed settled = record {
      typed = recursion_from_All Typed _ (All-more Typed items i item here.within (All-from_recursion Typed _ before.typed) (subst Typed here.is typed));
      left = (
        λ rest. before.left.0 (subst (SettledEach Settled sets kind) (sym left_from) (settled, rest)),
        λ all. (subst (SettledEach Settled sets kind) left_from (before.left.1 all)).1,
      );
    }

    -- one that isn't
    pub unsettled : (kind : List ℕ) → SettledSoFar kind i → (Settled kind item → ⊥) → SettledEach Settled sets first items → ⊥
    unsettled kind before not all = not (subst (SettledEach Settled sets kind) left_from (before.left.1 all)).0

  -- after the last
  pub settled_end : (kind : List ℕ) (n : ℕ) → length items ≤ n → SettledSoFar kind n → SettledEach Settled sets first items × AllByRecursion Typed items
  settled_end kind n past before = (
    before.left.0 (subst (SettledEach Settled sets kind) (sym (drop_all n items past)) tt),
    subst (AllByRecursion Typed) (take_all n items past) before.typed,
  )

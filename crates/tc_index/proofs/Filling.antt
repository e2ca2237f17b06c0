-- Filling slots in order.
use Rattle.std.proofs.Common.{◌≡◌, ◌⊎◌, ℕ, suc, ◌+◌, ◌-◌, ◌<◌, ◌≤◌, List, [], ◌∷◌, ◌++◌, length, take, drop, set, map, Option, Some, refl, sym, ap, ap₂, ◌∙◌, arith, inl, inr}
use Rattle.std.proofs.Common.{append_assoc, zero-add, add-zero, add-one}
use Rattle.std.proofs.lemmas.Bool.{cases_lt}
use Rattle.std.proofs.lemmas.List.{take_more_set, drop-set-lt, length-set, set_past, take-append-drop, drop_all, take_all, append-nil, length-map, take-map, drop-map, map-append}
use Rattle.tc_index.specs.declared.attribute.Node.{Node}
use Rattle.tc_index.specs.Views.{NodeView, node_view}
use Rattle.tc_index.specs.Nodes.{Fills, FillsBy, filled}

module _ {X : Type 0} where
  -- an index after the last slot
  filled-past : (n : ℕ) (xs slots : List X) → length slots ≤ n → filled n xs slots ≡ slots
  filled-past n [] slots past = refl
  filled-past n (x ∷ xs) slots past = rw (set_past slots n x past) (filled-past (suc n) xs slots (omega arith))

  -- as many as fit, and the slots after them unchanged
  filled-from : (n : ℕ) (xs slots : List X) → n ≤ length slots → filled n xs slots ≡ take n slots ++ (take (length slots - n) xs ++ drop (n + length xs) slots)
  filled-from n [] slots low = rw (add-zero, take_all {A = X} (length slots - n) [] (omega arith)) (sym (take-append-drop n slots))
  filled-from n (x ∷ xs) slots low = go (filled-from (suc n) xs (set slots n x)) (cases_lt n (length slots))
    where
      go : (suc n ≤ length (set slots n x) → filled (suc n) xs (set slots n x)
          ≡ take (suc n) (set slots n x) ++ (take (length (set slots n x) - suc n) xs ++ drop (suc n + length xs) (set slots n x)))
          → (n < length slots) ⊎ (length slots ≤ n)
          → filled (suc n) xs (set slots n x) ≡ take n slots ++ (take (length slots - n) (x ∷ xs) ++ drop (n + suc (length xs)) slots)
      go later (inl inside) =
          let same : length (set slots n x) ≡ length slots = length-set slots n x in
          let front : take (suc n) (set slots n x) ≡ take n slots ++ x ∷ [] = rw add-one at (take_more_set slots n x inside) in
          let left : length slots - n ≡ suc (length slots - suc n) = omega arith in
          let at : suc n + length xs ≡ n + suc (length xs) = omega arith in
          let back : drop (suc n + length xs) (set slots n x) ≡ drop (suc n + length xs) slots = drop-set-lt (suc n + length xs) slots n x (omega arith) in
          later (omega (arith, same))
          ∙ rw (front, same, back, left, at) (append_assoc (take n slots) (x ∷ []) (take (length slots - suc n) xs ++ drop (n + suc (length xs)) slots))
      go later (inr past) =
          let none : length slots - n ≡ 0 = omega arith in
          rw (set_past slots n x past, none, drop_all (n + suc (length xs)) slots (omega arith)) (filled-past (suc n) xs slots (omega arith) ∙ whole)
        where
          whole : slots ≡ take n slots ++ []
          whole = sym (append-nil (take n slots) ∙ take_all n slots past)

  pub filled-is : (xs slots : List X) → filled 0 xs slots ≡ take (length slots) xs ++ drop (length xs) slots
  filled-is xs slots = let none : length slots - 0 ≡ length slots = omega arith in rw (none, zero-add) at (filled-from 0 xs slots (omega arith))

  -- filling in two steps
  pub filled-append : (n : ℕ) (xs ys slots : List X) → filled n (xs ++ ys) slots ≡ filled (n + length xs) ys (filled n xs slots)
  filled-append n [] ys slots = rw add-zero refl
  filled-append n (x ∷ xs) ys slots =
      let at : suc n + length xs ≡ n + suc (length xs) = omega arith in
      rw at at (filled-append (suc n) xs ys (set slots n x))

-- no nodes
pub fills-none : {S : Type 0} (seen : S → Option NodeView) (nodes : List NodeView) (slots : List S) → nodes ≡ [] → FillsBy seen nodes slots slots
fills-none seen nodes slots none = rw (none, take_all {A = Option NodeView} (length slots) [] (omega arith)) refl

-- all nodes, from the first slot on
pub fills-all : {S : Type 0} (seen : S → Option NodeView) (nodes : List NodeView) (old new : List S)
    → map seen new ≡ filled 0 (map Some nodes) (map seen old) → FillsBy seen nodes old new
fills-all seen nodes old new put = put ∙ rw (length-map old seen, length-map nodes Some) at (filled-is (map Some nodes) (map seen old))

-- ---- slots of nodes

one-some : (xs ys : List NodeView) → map {A = NodeView} Some xs ≡ map Some ys → xs ≡ ys
one-some [] [] same = refl
one-some [] (y ∷ ys) same = absurd cc
one-some (x ∷ xs) [] same = absurd cc
one-some (x ∷ xs) (y ∷ ys) same = let first : x ≡ y = cc in let others : map {A = NodeView} Some xs ≡ map Some ys = cc in rw (first, one-some xs ys others) refl

some-seen : (slots : List Node) → map (λ (n : Node). Some (node_view n)) slots ≡ map Some (map node_view slots)
some-seen [] = refl
some-seen (n ∷ slots) = ap (λ (xs : List (Option NodeView)). Some (node_view n) ∷ xs) (some-seen slots)

pub fills_nodes : (nodes : List NodeView) (old new : List Node) → FillsBy (λ (n : Node). Some (node_view n)) nodes old new → Fills nodes old new
fills_nodes nodes old new fills =
    one-some _ _ (sym (some-seen new) ∙ fills
    ∙ rw (some-seen old) (ap₂ (λ (xs ys : List (Option NodeView)). xs ++ ys)
    (take-map Some (length old) nodes) (drop-map Some (length nodes) (map node_view old))
    ∙ sym (map-append Some (take (length old) nodes) (drop (length nodes) (map node_view old)))))

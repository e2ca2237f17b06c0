-- The kind in force at a place of a list: the text that was set last before it.
use Rattle.std.specs.Prelude.{◌≡◌, ℕ, List, [], ◌∷◌, ◌++◌, Option, Some, None, unwrap_or}
use Rattle.std.specs.List.{AllByRecursion}

-- what an element does to the kind: it sets a text, or leaves the kind unchanged
abbrev pub Sets : Type 0 → Type 0
Sets X = X → Option (List ℕ)

-- the kind after an element
abbrev pub kind_then : {X : Type 0} → Sets X → List ℕ → X → List ℕ
kind_then sets kind x = unwrap_or (sets x) kind

-- the kind after some elements is the text set last, or the first kind if none sets one
pub data InForce {X : Type 0} (sets : Sets X) (first : List ℕ) : List X → List ℕ → Type 0 where
  none_set : (before : List X) → AllByRecursion (λ x. sets x ≡ None) before → InForce sets first before first
  set_last : (front : List X) (x : X) (after : List X) (kind : List ℕ) → sets x ≡ Some kind → AllByRecursion (λ y. sets y ≡ None) after
      → InForce sets first (front ++ x ∷ after) kind

-- a kind that may be set, before others
abbrev pub kind_before : Option (List ℕ) → List (List ℕ) → List (List ℕ)
kind_before (Some kind) kinds = kind ∷ kinds
kind_before None kinds = kinds

-- all kinds that the elements of a list set, in order
abbrev pub kinds_set : {X : Type 0} → Sets X → List X → List (List ℕ)
kinds_set sets [] = []
kinds_set sets (x ∷ xs) = kind_before (sets x) (kinds_set sets xs)

-- The kind in force at a place is the one that the elements before it leave, one after the other.
use Rattle.std.proofs.Common.{◌≡◌, ℕ, List, [], ◌∷◌, ◌++◌, Option, Some, None, refl, ap, ◌∙◌}
use Rattle.std.specs.Prelude.{unwrap_or}
use Rattle.std.specs.List.{AllByRecursion}
use Rattle.nla_frames.specs.Place.{Sets, kind_then, InForce, none_set, set_last}

-- the kind that some elements leave
abbrev pub kind_after : {X : Type 0} → Sets X → List ℕ → List X → List ℕ
kind_after sets kind [] = kind
kind_after sets kind (x ∷ xs) = kind_after sets (kind_then sets kind x) xs

-- after more elements
pub kind_after-append : {X : Type 0} (sets : Sets X) (kind : List ℕ) (xs ys : List X)
    → kind_after sets kind (xs ++ ys) ≡ kind_after sets (kind_after sets kind xs) ys
kind_after-append sets kind [] ys = refl
kind_after-append sets kind (x ∷ xs) ys = kind_after-append sets (kind_then sets kind x) xs ys

-- elements that set nothing leave the kind unchanged
kind_after_none : {X : Type 0} (sets : Sets X) (kind : List ℕ) (xs : List X) → AllByRecursion (λ x. sets x ≡ None) xs → kind_after sets kind xs ≡ kind
kind_after_none sets kind [] none = refl
kind_after_none sets kind (x ∷ xs) none = rw (none.0) (kind_after_none sets kind xs none.1)

-- the kind in force is the one that the elements leave
pub kind_after-InForce : {X : Type 0} (sets : Sets X) (first : List ℕ) (before : List X) (kind : List ℕ) → InForce sets first before kind
    → kind_after sets first before ≡ kind
kind_after-InForce sets first before kind (none_set xs none) = kind_after_none sets first before none
kind_after-InForce sets first before kind (set_last front x after k is none) =
    kind_after-append sets first front (x ∷ after) ∙ ap (λ (o : Option (List ℕ)). kind_after sets (unwrap_or o (kind_after sets first front)) after) is
    ∙ kind_after_none sets kind after none

-- one element more in front
InForce-cons : {X : Type 0} (sets : Sets X) (first : List ℕ) (x : X) (before : List X) (kind : List ℕ) → InForce sets (kind_then sets first x) before kind
    → InForce sets first (x ∷ before) kind
InForce-cons sets first x before kind (none_set xs none) = go (sets x) refl
  where
    go : (o : Option (List ℕ)) → sets x ≡ o → InForce sets first (x ∷ before) (kind_then sets first x)
    go None e = rw e (none_set (x ∷ before) (e, none))
    go (Some k) e = rw e (set_last [] x before k e none)
InForce-cons sets first x before kind (set_last front y after k is none) = set_last (x ∷ front) y after kind is none

-- the kind that the elements leave is in force
pub InForce-kind_after : {X : Type 0} (sets : Sets X) (first : List ℕ) (before : List X) → InForce sets first before (kind_after sets first before)
InForce-kind_after sets first [] = none_set [] tt
InForce-kind_after sets first (x ∷ xs) =
    InForce-cons sets first x xs (kind_after sets (kind_then sets first x) xs) (InForce-kind_after sets (kind_then sets first x) xs)

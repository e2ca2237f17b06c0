-- A list is canonical exactly when it is canonical at each place, under the kind set last before it.
use Rattle.std.proofs.Common.{◌≡◌, ℕ, suc, zero, List, [], ◌∷◌, ◌++◌, take, refl, ap, ◌∙◌, ◌↔◌, Option, Some, None}
use Rattle.std.specs.Prelude.{slice_get, unwrap_or}
use Rattle.std.specs.List.{AllByRecursion}
use Rattle.nla_frames.specs.Frame.{Frame}
use Rattle.nla_frames.specs.Place.{Sets, kind_then, InForce, none_set, set_last}
use Rattle.tc_canon.specs.Canonical.{IsCanonAt, CanonEach, IsCanonList, CanonAtEach, IsCanonAtEach}

-- the kind in force after some elements, as they run
abbrev pub kind_after_all : {X : Type 0} → Sets X → List ℕ → List X → List ℕ
kind_after_all sets k [] = k
kind_after_all sets k (x ∷ xs) = kind_after_all sets (kind_then sets k x) xs

module _ {X : Type 0} (sets : Sets X) where
  -- where no element sets a kind, it stays
  stays : (k : List ℕ) (xs : List X) → AllByRecursion (λ x. sets x ≡ None) xs → kind_after_all sets k xs ≡ k
  stays k [] none = refl
  stays k (x ∷ xs) none = rw none.0 (stays k xs none.1)

  -- where one sets it and none after it, it is that one's
  sets-last : (k : List ℕ) (front : List X) (x : X) (after : List X) (kind : List ℕ) → sets x ≡ Some kind → AllByRecursion (λ y. sets y ≡ None) after
      → kind_after_all sets k (front ++ x ∷ after) ≡ kind
  sets-last k [] x after kind is none = ap (λ (o : Option (List ℕ)). kind_after_all sets (unwrap_or o k) after) is ∙ stays kind after none
  sets-last k (y ∷ front) x after kind is none = sets-last (kind_then sets k y) front x after kind is none

  -- the kind set last is the one that is in force as they run
  pub in_force-is : (k : List ℕ) (before : List X) (kind : List ℕ) → InForce sets k before kind → kind_after_all sets k before ≡ kind
  in_force-is k _ _ (none_set before none) = stays k before none
  in_force-is k _ _ (set_last front x after kind is none) = sets-last k front x after kind is none

  -- one element more in front
  in_force-more : (k : List ℕ) (x : X) (xs : List X) (kind : List ℕ) → InForce sets (kind_then sets k x) xs kind → InForce sets k (x ∷ xs) kind
  in_force-more k x xs kind h = go (sets x) refl xs kind h
    where
      go : (o : Option (List ℕ)) → sets x ≡ o → (ys : List X) (t : List ℕ) → InForce sets (unwrap_or o k) ys t → InForce sets k (x ∷ ys) t
      go None is _ _ (none_set ys none) = none_set (x ∷ ys) (is, none)
      go None is _ _ (set_last front y after t sets_y none) = set_last (x ∷ front) y after t sets_y none
      go (Some u) is _ _ (none_set ys none) = set_last [] x ys u is none
      go (Some u) is _ _ (set_last front y after t sets_y none) = set_last (x ∷ front) y after t sets_y none

  -- and the other way round
  pub in_force : (k : List ℕ) (before : List X) → InForce sets k before (kind_after_all sets k before)
  in_force k [] = none_set [] tt
  in_force k (x ∷ xs) = in_force-more k x xs _ (in_force (kind_then sets k x) xs)

module _ (Canon : IsCanonAt) (sets : Sets Frame) where
  -- canonical in sequence, so at each place
  at-each : (k : List ℕ) (fs : List Frame) → CanonEach Canon sets k fs → (i : ℕ) (f : Frame) → slice_get fs i ≡ Some f
      → Canon (kind_after_all sets k (take i fs)) f
  at-each k [] each i f e = absurd cc
  at-each k (x ∷ fs) each zero f e = let same : x ≡ f = cc in rw (← same) each.0
  at-each k (x ∷ fs) each (suc i) f e = at-each (kind_then sets k x) fs each.1 i f e

  -- canonical at each place, so in sequence
  as-it-runs : (k : List ℕ) (fs : List Frame) → ((i : ℕ) (f : Frame) → slice_get fs i ≡ Some f → Canon (kind_after_all sets k (take i fs)) f)
      → CanonEach Canon sets k fs
  as-it-runs k [] each = tt
  as-it-runs k (x ∷ fs) each = (each zero x refl, as-it-runs (kind_then sets k x) fs (λ i f e. each (suc i) f e))

  -- the same frames, either way
  pub each-place : (k : List ℕ) (fs : List Frame) → CanonAtEach Canon sets k fs ↔ CanonEach Canon sets k fs
  each-place k fs = (
    λ places. as-it-runs k fs (λ i f e. let p = places i f e in rw (in_force-is sets k (take i fs) p.kind p.in_force) p.canonical),
    λ each i f e. record { kind = kind_after_all sets k (take i fs); in_force = in_force sets k (take i fs); canonical = at-each k fs each i f e },
  )

  -- the same of a whole list
  pub list-places : (k bytes : List ℕ) → IsCanonAtEach Canon sets k bytes ↔ IsCanonList Canon sets k bytes
  list-places k bytes = (
    λ p. record { list = p.list; frames = p.frames; whole = p.whole; holds = (each-place k p.list).0 p.holds },
    λ p. record { list = p.list; frames = p.frames; whole = p.whole; holds = (each-place k p.list).1 p.holds },
  )

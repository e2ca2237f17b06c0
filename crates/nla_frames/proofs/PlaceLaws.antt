-- Properties of each element of a list in sequence, and at each place, under the kind that is set last before it.
use Rattle.std.proofs.Common.{◌≡◌, ◌↔◌, ℕ, zero, suc, List, [], ◌∷◌, take, Some, refl, subst}
use Rattle.std.specs.Prelude.{slice_get}
use Rattle.nla_frames.specs.Place.{Sets, kind_then}
use Rattle.nla_frames.specs.Codec.{SettledEach, SettledAtEach}
use Rattle.nla_frames.proofs.Places.{kind_after, kind_after-InForce, InForce-kind_after}

module _ {X : Type 0} (P : List ℕ → X → Type 0) (sets : Sets X) where
  -- at each place under the kind that the elements before it leave
  abbrev pub AtEachAfter : List ℕ → List X → Type 0
  AtEachAfter first xs = (i : ℕ) (x : X) → slice_get xs i ≡ Some x → P (kind_after sets first (take i xs)) x

  pub each-from_places : (first : List ℕ) (xs : List X) → AtEachAfter first xs → SettledEach P sets first xs
  each-from_places first [] at = tt
  each-from_places first (x ∷ xs) at = (at 0 x refl, each-from_places (kind_then sets first x) xs (λ i y e. at (suc i) y e))

  pub places-from_each : (first : List ℕ) (xs : List X) → SettledEach P sets first xs → AtEachAfter first xs
  places-from_each first [] each i x e = absurd cc
  places-from_each first (y ∷ xs) each zero x e = let same : y ≡ x = cc in subst (P first) same each.0
  places-from_each first (y ∷ xs) each (suc i) x e = places-from_each (kind_then sets first y) xs each.1 i x e

  -- as the list runs, and place by place
  pub each-at_each : (first : List ℕ) (xs : List X) → SettledEach P sets first xs ↔ SettledAtEach P sets first xs
  each-at_each first xs = (
    (λ each i x e. record {
      kind = kind_after sets first (take i xs);
      in_force = InForce-kind_after sets first (take i xs);
      settled =
          places-from_each first xs each i x e;
    }),
    (λ at. each-from_places first xs (λ i x e. let here = at i x e in rw (kind_after-InForce sets first (take i xs) here.kind here.in_force) here.settled)),
  )

-- Whether the first objects are in order.
use Rattle.std.proofs.Common.{◌≡◌, ℕ, ◌+◌, ◌<◌, Bool, true, false, ◌&&◌, List, [], ◌∷◌, ◌++◌, length, get_or, take, drop, refl, sym, ap, ◌∙◌}
use Rattle.std.proofs.lemmas.List.{map-append, take-append-drop, drop_more, take_more, map_push}
use Rattle.tc_changes.specs.Model.{Thing, is_next, ready}
use Rattle.tc_changes.specs.Objects.{thing, things}
use Rattle.tc_changes.specs.declared.object.Object.{Object}
use Rattle.tc_changes.proofs.Lookups.{and_false, and_true}
use Rattle.tc_changes.proofs.Wholes.{passed, ready-append}

module _ {K C : Type 0} (eq : K → K → Bool) where
  -- one that can't come after those before it
  pub not_ready : (front : List (Thing K C)) (x : Thing K C) (rest : List (Thing K C)) → is_next eq (passed [] front) x ≡ false
      → ready eq [] (front ++ x ∷ rest) ≡ false
  not_ready front x rest is =
      ready-append eq [] front (x ∷ rest) ∙ ap (λ b. ready eq [] front && (b && ready eq (x.key ∷ passed [] front) rest)) is
      ∙ and_false (ready eq [] front)

  -- one that can
  pub ready_more : (front : List (Thing K C)) (x : Thing K C) → ready eq [] front ≡ true → is_next eq (passed [] front) x ≡ true
      → ready eq [] (front ++ x ∷ []) ≡ true
  ready_more front x order is =
      ready-append eq [] front (x ∷ []) ∙ ap (λ b. b && (is_next eq (passed [] front) x && true)) order ∙ and_true (is_next eq (passed [] front) x) ∙ is

pub passed-push : {K C : Type 0} (before : List K) (front : List (Thing K C)) (x : Thing K C) → passed before (front ++ x ∷ []) ≡ x.key ∷ passed before front
passed-push before [] x = refl
passed-push before (o ∷ front) x = passed-push (o.key ∷ before) front x

module _ {A : Type 0} (xs : List (Object A)) (i : ℕ) (x : Object A) (within : i < length xs) (is : x ≡ get_or xs i x) where
  pub things_split : things (take i xs) ++ thing x ∷ things (drop (i + 1) xs) ≡ things xs
  things_split =
      sym (map-append thing (take i xs) (x ∷ drop (i + 1) xs))
      ∙ ap (λ y. things (take i xs ++ y ∷ drop (i + 1) xs)) is
      ∙ ap (λ l. things (take i xs ++ l)) (sym (drop_more xs i x within))
      ∙ ap things (take-append-drop i xs)

  pub things_more : things (take i xs) ++ thing x ∷ [] ≡ things (take (i + 1) xs)
  things_more =
      sym (map_push thing (take i xs) x) ∙ ap (λ y. things (take i xs ++ y ∷ [])) is ∙ ap things (sym (take_more xs i x within))

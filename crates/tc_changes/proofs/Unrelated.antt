-- Objects in order are unrelated to those that come later.
use Rattle.std.proofs.Common.{◌≡◌, Bool, true, false, not, cond, ◌&&◌, ◌||◌, List, [], ◌∷◌, ◌++◌, refl, sym, ap, ◌∙◌}
use Rattle.std.specs.List.{list_all, AllByRecursion}
use Rattle.tc_changes.specs.Model.{Thing, needs, among, ready}
use Rattle.tc_changes.proofs.Lookups.{and_left, and_right, or_left, or_right, or_true, not_true, by_cases, none_among}

pub pick : {X : Type 0} (P : X → Type 0) (b : Bool) (x y : X) → (b ≡ true → P x) → (b ≡ false → P y) → P (cond b x y)
pick P true x y here there = here refl
pick P false x y here there = there refl

module _ {K C : Type 0} (eq : K → K → Bool) (sound : (a b : K) → eq a b ≡ true → a ≡ b) (same : (a : K) → eq a a ≡ true) where
  -- an object hasn't this key, and doesn't need it
  abbrev pub Unrelated : K → Thing K C → Type 0
  Unrelated k p = (eq k p.key ≡ false) × (among eq (needs p) k ≡ false)

  -- what stands before an object in order is unrelated to it
  pub unrelated_front : (before : List K) (front : List (Thing K C)) (o : Thing K C) (rest : List (Thing K C)) → ready eq before (front ++ o ∷ rest) ≡ true
      → AllByRecursion (Unrelated o.key) front × (among eq before o.key ≡ false) × (among eq (needs o) o.key ≡ false)
  unrelated_front before [] o rest is =
      let first = and_left _ (ready eq (o.key ∷ before) rest) is in
      let fresh = not_true (among eq before o.key) (and_left _ _ first) in
      (tt, fresh, none_among eq sound same before o.key (needs o) fresh (and_right (not (among eq before o.key)) _ first))
  unrelated_front before (p ∷ front) o rest is =
      let first = and_left _ (ready eq (p.key ∷ before) (front ++ o ∷ rest)) is in
      let more = unrelated_front (p.key ∷ before) front o rest (and_right (not (among eq before p.key) && list_all (among eq before) (needs p)) _ is) in
      let here = or_left (eq o.key p.key) (among eq before o.key) more.1 in
      let fresh = or_right (eq o.key p.key) (among eq before o.key) more.1 in
      (((here, none_among eq sound same before o.key (needs p) fresh (and_right (not (among eq before p.key)) _ first)), more.0), fresh, more.2)

  -- objects after a key have other keys
  pub unrelated_rest : (before : List K) (k : K) (rest : List (Thing K C)) → among eq before k ≡ true → ready eq before rest ≡ true
      → AllByRecursion (λ p. eq k p.key ≡ false) rest
  unrelated_rest before k [] there is = tt
  unrelated_rest before k (p ∷ rest) there is =
      let first = and_left _ (ready eq (p.key ∷ before) rest) is in
      let fresh = not_true (among eq before p.key) (and_left _ _ first) in (
        by_cases (eq k p.key ≡ false) (eq k p.key) (λ here. absurd (cc (sym there ∙ ap (among eq before) (sound k p.key here) ∙ fresh))) (λ no_. no_),
        unrelated_rest (p.key ∷ before) k rest (ap (λ b. eq k p.key || b) there ∙ or_true (eq k p.key))
            (and_right (not (among eq before p.key) && list_all (among eq before) (needs p)) _ is),
      )

  -- what follows in an order is in order
  pub ready_rest : (before : List K) (front : List (Thing K C)) (o : Thing K C) (rest : List (Thing K C)) → ready eq before (front ++ o ∷ rest) ≡ true
      → AllByRecursion (λ p. eq o.key p.key ≡ false) rest
  ready_rest before [] o rest is =
      unrelated_rest (o.key ∷ before) o.key rest (ap (λ b. b || among eq before o.key) (same o.key))
      (and_right (not (among eq before o.key) && list_all (among eq before) (needs o)) _ is)
  ready_rest before (p ∷ front) o rest is = ready_rest (p.key ∷ before) front o rest
      (and_right (not (among eq before p.key) && list_all (among eq before) (needs p)) _ is)

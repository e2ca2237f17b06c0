-- The first of a list that passes a test, and the first whose name has a member.
use Rattle.std.proofs.Common.{◌≡◌, ℕ, inl, inr, Bool, true, false, List, [], ◌∷◌, ◌++◌, Option, Some, None, refl, ap, sym, ◌∙◌, cond, true≢false, ◌-◌}
use Rattle.std.specs.Prelude.{option_and_then, unwrap_or, is_none, bytes_eq, ◌&&◌}
use Rattle.std.proofs.lemmas.Bool.{cases_Bool, cond-true, cond-false, cond_both, and_parts, and_from}
use Rattle.std.proofs.lemmas.Slice.Eq.{bytes_eq-Decides}
use Rattle.serde_json.specs.Data.{Data}
use Rattle.serde_json.specs.Find.{get}
use Rattle.forms_values.specs.Search.{first, held, held_or}

pub and_false : (a : Bool) → (a && false) ≡ false
and_false true = refl
and_false false = refl

pub and_true : (a : Bool) → (a && true) ≡ a
and_true true = refl
and_true false = refl

pub none_not_some : {X : Type 0} (x : X) → None ≡ Some x → ⊥
none_not_some x e = true≢false (ap is_none e)

pub some_is : {X : Type 0} (x y : X) → Some x ≡ Some y → x ≡ y
some_is x y e = ap (λ o. unwrap_or o x) e

-- ---- the first that passes

pub first_passes : {X : Type 0} (test : X → Bool) (xs : List X) (x : X) → first test xs ≡ Some x → test x ≡ true
first_passes test [] x e = absurd (none_not_some x e)
first_passes test (y ∷ xs) x e =
    elim (cases_Bool (test y)) [
      | inl is ↦
          let same = some_is y x (sym (cond-true (test y) (Some y) (first test xs) is) ∙ e) in ap test (sym same) ∙ is
      | inr other ↦ first_passes test xs x (sym (cond-false (test y) (Some y) (first test xs) other) ∙ e)
    ]

-- the first that passes a test, if it is the first of its name too and passes a second test
pub record Guarded {X : Type 0} (xs : List X) (name : X → List ℕ) (passes : X → Bool) (second : X → Bool) (x : X) : Type 0 where
  pub itself : first (λ y. passes y && bytes_eq (name y) (name x)) xs ≡ Some x
  pub passed : passes x ≡ true
  pub second_too : second x ≡ true

module _ {X : Type 0} (xs : List X) (name : X → List ℕ) (passes : X → Bool) (second : X → Bool) where
  by_name : (n : List ℕ) (x : X) (p : Option X) → first (λ y. passes y && bytes_eq (name y) n) xs ≡ p
      → option_and_then (λ y. cond (second y) (Some y) None) p ≡ Some x → Guarded xs name passes second x
  by_name n x None is e = absurd (none_not_some x e)
  by_name n x (Some y) is e =
      elim (cases_Bool (second y)) [
        | inl holds ↦
            let same : y ≡ x = some_is y x (sym (cond-true (second y) (Some y) None holds) ∙ e) in
            let both = and_parts (passes x) (bytes_eq (name x) n) (first_passes (λ z. passes z && bytes_eq (name z) n) xs x (is ∙ ap Some same)) in
            let named : name x ≡ n = (bytes_eq-Decides (name x) n).0 both.1 in
            record {
              itself = ap (λ m. first (λ z. passes z && bytes_eq (name z) m) xs) named ∙ is ∙ ap Some same;
              passed = both.0;
              second_too = ap second (sym same) ∙ holds;
            }
        | inr fails ↦ absurd (none_not_some x (sym (cond-false (second y) (Some y) None fails) ∙ e))
      ]

  pub guarded : (o : Option X) (x : X)
      → option_and_then (λ y. cond (second y) (Some y) None) (option_and_then (λ z. first (λ y. passes y && bytes_eq (name y) (name z)) xs) o) ≡ Some x
      → Guarded xs name passes second x
  guarded None x e = absurd (none_not_some x e)
  guarded (Some z) x e = by_name (name z) x (first (λ y. passes y && bytes_eq (name y) (name z)) xs) refl e

  pub held_again : (ys : List X) (d v : Data) (n : List ℕ) (x : X) → first (λ y. passes y && bytes_eq (name y) n) ys ≡ Some x → get n d ≡ Some v
      → ((y : X) → passes y ≡ true → bytes_eq (name y) n ≡ false → get (name y) d ≡ None) → held name passes ys d ≡ Some (x, v)
  held_again [] d v n x e found others = absurd (none_not_some x e)
  held_again (y ∷ ys) d v n x e found others =
      elim (cases_Bool (passes y)) [
        | inl pass ↦
            elim (cases_Bool (bytes_eq (name y) n)) [
              | inl same ↦
                  let mine : y ≡ x = some_is y x (sym (cond-true _ (Some y) _ (and_from (passes y) (bytes_eq (name y) n) pass same)) ∙ e) in
                  ap (λ o. held_or name passes y o (held name passes ys d)) (ap (λ m. get m d) ((bytes_eq-Decides (name y) n).0 same) ∙ found)
                  ∙ ap (λ t. cond t (Some (y, v)) (held name passes ys d)) pass ∙ ap (λ (z : X). Some (z, v)) mine
              | inr differs ↦
                  ap (λ o. held_or name passes y o (held name passes ys d)) (others y pass differs)
                  ∙ held_again ys d v n x (sym (ap (λ t. cond t (Some y) (first (λ y. passes y && bytes_eq (name y) n) ys))
                  (ap (λ t. t && bytes_eq (name y) n) pass ∙ differs)) ∙ e) found others
            ]
        | inr fails ↦
            skipped (get (name y) d) fails
            ∙ held_again ys d v n x (sym (ap (λ t. cond t (Some y) (first (λ y. passes y && bytes_eq (name y) n) ys))
            (ap (λ t. t && bytes_eq (name y) n) fails)) ∙ e) found others
      ]
    where
      skipped : (o : Option Data) → passes y ≡ false → held_or name passes y o (held name passes ys d) ≡ held name passes ys d
      skipped None fails = refl
      skipped (Some w) fails = ap (λ t. cond t (Some (y, w)) (held name passes ys d)) fails

-- ---- in two lists, one after the other

pub first_of_two : {X : Type 0} (test : X → Bool) (xs ys : List X) (x : X) → Some x ≡ first test xs → Some x ≡ first test (xs ++ ys)
first_of_two test [] ys x e = absurd (none_not_some x (sym e))
first_of_two test (y ∷ xs) ys x e =
    cond_both (test y) (Some y) (first test xs) (λ o. Some x ≡ o → Some x ≡ cond (test y) (Some y) (first test (xs ++ ys)))
    (λ holds same. same ∙ sym (cond-true (test y) (Some y) (first test (xs ++ ys)) holds))
    (λ fails same. first_of_two test xs ys x same ∙ sym (cond-false (test y) (Some y) (first test (xs ++ ys)) fails)) e

pub first_of_second : {X : Type 0} (test : X → Bool) (xs ys : List X) → None ≡ first test xs → first test (xs ++ ys) ≡ first test ys
first_of_second test [] ys e = refl
first_of_second test (y ∷ xs) ys e =
    cond_both (test y) (Some y) (first test xs) (λ o. None ≡ o → cond (test y) (Some y) (first test (xs ++ ys)) ≡ first test ys)
    (λ holds same. absurd (none_not_some y same))
    (λ fails same. cond-false (test y) (Some y) (first test (xs ++ ys)) fails ∙ first_of_second test xs ys same) e

module _ {X : Type 0} (name : X → List ℕ) (test : X → Bool) (d : Data) where
  held_next : (y : X) (o : Option Data) (p q : Option (X × Data)) (m : X × Data) → (Some m ≡ p → Some m ≡ q)
      → Some m ≡ held_or name test y o p → Some m ≡ held_or name test y o q
  held_next y None p q m more e = more e
  held_next y (Some v) p q m more e =
      cond_both (test y) (Some (y, v)) p (λ o. Some m ≡ o → Some m ≡ cond (test y) (Some (y, v)) q)
      (λ holds same. same ∙ sym (cond-true (test y) (Some (y, v)) q holds)) (λ fails same. more same ∙ sym (cond-false (test y) (Some (y, v)) q fails)) e

  none_next : (y : X) (o : Option Data) (p q r : Option (X × Data)) → (None ≡ p → q ≡ r) → None ≡ held_or name test y o p → held_or name test y o q ≡ r
  none_next y None p q r more e = more e
  none_next y (Some v) p q r more e =
      cond_both (test y) (Some (y, v)) p (λ o. None ≡ o → cond (test y) (Some (y, v)) q ≡ r) (λ holds same. absurd (none_not_some (y, v) same))
      (λ fails same. cond-false (test y) (Some (y, v)) q fails ∙ more same) e

  pub held_of_two : (xs ys : List X) (m : X × Data) → Some m ≡ held name test xs d → Some m ≡ held name test (xs ++ ys) d
  held_of_two [] ys m e = absurd (none_not_some m (sym e))
  held_of_two (y ∷ xs) ys m e =
      held_next y (get (name y) d) (held name test xs d) (held name test (xs ++ ys) d) m (λ same. held_of_two xs ys m same) e

  pub held_of_second : (xs ys : List X) → None ≡ held name test xs d → held name test (xs ++ ys) d ≡ held name test ys d
  held_of_second [] ys e = refl
  held_of_second (y ∷ xs) ys e =
      none_next y (get (name y) d) (held name test xs d) (held name test (xs ++ ys) d) (held name test ys d) (λ same. held_of_second xs ys same) e

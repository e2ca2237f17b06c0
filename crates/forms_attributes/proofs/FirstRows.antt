-- The first row of a type, at the place of its number.
use Rattle.std.proofs.Common.{◌≡◌, ℕ, inl, inr, zero, suc, Bool, true, List, [], ◌∷◌, ◌++◌, drop, take, Some, None, ap, refl, sym, ◌∙◌}
use Rattle.std.specs.Prelude.{map, option_and_then, bytes_eq, ◌==◌}
use Rattle.std.proofs.lemmas.Bool.{cases_Bool, cond-true, cond-false, and_parts, and_from}
use Rattle.forms_attributes.specs.Rows.{counts, of_name, of_type, row_if, shown_row, type_of}
use Rattle.forms_values.specs.Search.{first}
use Rattle.forms_values.specs.Tables.{Row}
use Rattle.forms_values.proofs.Search.{first_of_two, first_passes, none_not_some}
use Rattle.forms_values.proofs.Leaves.{same_bytes}

-- if no element in front passes, the first that passes is after them
pub first_after : {X Y : Type 0} (see : Y → X) (test : X → Bool) (n : ℕ) (ys : List Y) → first test (map see (take n ys)) ≡ None
    → first test (map see ys) ≡ first test (map see (drop n ys))
first_after see test zero ys e = refl
first_after see test (suc n) [] e = refl
first_after see test (suc n) (y ∷ ys) e =
    elim (cases_Bool (test (see y))) [
      | inl is ↦ absurd (none_not_some (see y) (sym e ∙ cond-true (test (see y)) (Some (see y)) (first test (map see (take n ys))) is))
      | inr other ↦
          cond-false (test (see y)) (Some (see y)) (first test (map see ys)) other
          ∙ first_after see test n ys (sym (cond-false (test (see y)) (Some (see y)) (first test (map see (take n ys))) other) ∙ e)
    ]

-- the first after them
pub first_there : {X Y : Type 0} (see : Y → X) (test : X → Bool) (n : ℕ) (ys following : List Y) (y : Y) → first test (map see (take n ys)) ≡ None
    → drop n ys ≡ y ∷ following → test (see y) ≡ true → first test (map see ys) ≡ Some (see y)
first_there see test n ys following y none is passes =
    first_after see test n ys none ∙ ap (λ zs. first test (map see zs)) is ∙ cond-true (test (see y)) (Some (see y)) (first test (map see following)) passes

-- a row that is the first of its type and of its name is shown
pub shown_at : (own common : List Row) (word : ℕ) (r : Row) → first (of_type word) own ≡ Some r → first (of_name r.name) own ≡ Some r
    → Some r ≡ shown_row (own ++ common) word
shown_at own common word r typed named =
    let both = and_parts (counts r) (type_of r.word == type_of word) (first_passes (of_type word) own r typed) in
    sym (ap (λ o. option_and_then (row_if word) (option_and_then (λ x. first (of_name x.name) (own ++ common)) o))
    (sym (first_of_two (of_type word) own common r (sym typed)))
    ∙ ap (option_and_then (row_if word)) (sym (first_of_two (of_name r.name) own common r (sym named)))
    ∙ cond-true (type_of r.word == type_of word) (Some r) None both.1)

-- a row of a type is of its own name
pub of_own_name : (word : ℕ) (r : Row) → of_type word r ≡ true → of_name r.name r ≡ true
of_own_name word r typed = and_from (counts r) (bytes_eq r.name r.name) (and_parts (counts r) (type_of r.word == type_of word) typed).0 (same_bytes r.name)

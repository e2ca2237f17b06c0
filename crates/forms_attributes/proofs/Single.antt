-- An object of one member: the row that it holds.
use Rattle.std.proofs.Common.{◌≡◌, ℕ, inl, inr, Bool, true, false, List, [], ◌∷◌, Option, Some, refl, ap, sym, ◌∙◌, cond, length, arith}
use Rattle.std.specs.Prelude.{if◌then◌else◌, option_map, bytes_eq, ◌&&◌, String, slice_get, string_bytes}
use Rattle.std.proofs.lemmas.Bool.{cases_Bool}
use Rattle.std.proofs.lemmas.Slice.Eq.{bytes_eq-Decides}
use Rattle.serde_json.specs.Data.{Data, array, boolean, no_members, null, number, object, string}
use Rattle.serde_json.specs.Find.{as_object, get}
use Rattle.forms_values.specs.Raw.{one}
use Rattle.forms_attributes.specs.Rows.{counts, of_name}
use Rattle.forms_values.specs.Search.{first, held, held_or}
use Rattle.forms_values.specs.Tables.{Row}
use Rattle.forms_values.proofs.Search.{and_false, and_true, none_not_some, some_is}
use Rattle.std.specs.declared.alloc.Global.{Global}
use Rattle.serde_json.specs.View.{members_view, view}
use Rattle.serde_json.specs.declared.value.Value.{Value}
use Rattle.forms_values.proofs.Members.{here, passes}

-- a row that is held is the first of the name
pub held_one : (rows : List Row) (name : List ℕ) (d : Data)
    → held (λ r. r.name) counts rows (one name d) ≡ option_map (λ r. (r, d)) (first (of_name name) rows)
held_one [] name d = refl
held_one (r ∷ rows) name d =
    elim (cases_Bool (bytes_eq r.name name)) [
      | inl same ↦
          let found : get r.name (one name d) ≡ Some d =
          ap (λ n. get n (one name d)) ((bytes_eq-Decides r.name name).0 same) ∙ here name d no_members in
          ap (λ o. held_or (λ r. r.name) counts r o (held (λ r. r.name) counts rows (one name d))) found
          ∙ ap (taken (counts r)) (held_one rows name d)
          ∙ either (counts r) (first (of_name name) rows)
          ∙ sym (ap (λ t. option_map (λ r. (r, d)) (cond t (Some r) (first (of_name name) rows))) (ap (λ t. counts r && t) same ∙ and_true (counts r)))
      | inr differs ↦
          ap (λ o. held_or (λ r. r.name) counts r o (held (λ r. r.name) counts rows (one name d))) (passes r.name name d no_members differs)
          ∙ held_one rows name d
          ∙ sym (ap (λ t. option_map (λ r. (r, d)) (cond t (Some r) (first (of_name name) rows))) (ap (λ t. counts r && t) differs ∙ and_false (counts r)))
    ]
  where
    taken : Bool → Option (Row × Data) → Option (Row × Data)
    taken t later = if t then Some (r, d) else later

    either : (t : Bool) (o : Option Row) → taken t (option_map (λ r. (r, d)) o) ≡ option_map (λ r. (r, d)) (cond t (Some r) o)
    either true o = refl
    either false o = refl

-- the one entry of a map is the one member
pub only_is : (d : Data) (entries : List (String Global × Value)) (name : String Global) (v : Value) (text : List ℕ) → Some (members_view entries) ≡ as_object d
    → length entries ≡ 1 → slice_get entries 0 ≡ Some (name, v) → text ≡ string_bytes name → d ≡ one text (view v)
only_is d [] name v text found count at is = absurd (omega (arith, count))
only_is d (m ∷ n ∷ rest) name v text found count at is = absurd (omega (arith, count))
only_is (object ms) (m ∷ []) name v text found count at is =
    ap object (some_is ms (members_view (m ∷ [])) (sym found) ∙ ap (λ e. members_view (e ∷ [])) (some_is m (name, v) at))
    ∙ ap (λ t. one t (view v)) (sym is)
only_is null (m ∷ []) name v text found count at is = absurd (none_not_some (members_view (m ∷ [])) (sym found))
only_is (boolean b) (m ∷ []) name v text found count at is = absurd (none_not_some (members_view (m ∷ [])) (sym found))
only_is (number n) (m ∷ []) name v text found count at is = absurd (none_not_some (members_view (m ∷ [])) (sym found))
only_is (string s) (m ∷ []) name v text found count at is = absurd (none_not_some (members_view (m ∷ [])) (sym found))
only_is (array ds) (m ∷ []) name v text found count at is = absurd (none_not_some (members_view (m ∷ [])) (sym found))

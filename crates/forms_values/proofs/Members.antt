-- The members of an object, by their names.
use Rattle.std.proofs.Common.{◌≡◌, ℕ, true, false, List, Option, Some, refl, sym, ◌∙◌, true≢false, Ordering, Less, Equal, Greater}
use Rattle.std.specs.Prelude.{bytes_eq}
use Rattle.std.specs.Ordering.{match_ordering, nat_cmp, is_eq}
use Rattle.std.specs.Cmp.Lexicographic.{slice_cmp}
use Rattle.std.proofs.lemmas.Map.Text.{is_eq-slice_cmp}
use Rattle.serde_json.specs.Data.{Data, Members, member}
use Rattle.serde_json.specs.Find.{get_member}
use Rattle.forms_values.proofs.Leaves.{same_bytes}

found_at : (o : Ordering) (a b : Option Data) → is_eq o ≡ true → match_ordering o a b a ≡ b
found_at Less a b e = absurd (true≢false (sym e))
found_at Equal a b e = refl
found_at Greater a b e = absurd (true≢false (sym e))

passed_at : (o : Ordering) (a b : Option Data) → is_eq o ≡ false → match_ordering o a b a ≡ a
passed_at Less a b e = refl
passed_at Equal a b e = absurd (true≢false e)
passed_at Greater a b e = refl

pub here : (name : List ℕ) (d : Data) (ms : Members) → get_member name (member name d ms) ≡ Some d
here name d ms = found_at (slice_cmp nat_cmp name name) (get_member name ms) (Some d) (is_eq-slice_cmp name name ∙ same_bytes name)

pub passes : (name other : List ℕ) (d : Data) (ms : Members) → bytes_eq name other ≡ false → get_member name (member other d ms) ≡ get_member name ms
passes name other d ms e = passed_at (slice_cmp nat_cmp name other) (get_member name ms) (Some d) (is_eq-slice_cmp name other ∙ e)

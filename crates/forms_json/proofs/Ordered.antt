-- Readers of JSON: one keeps what is shown unchanged, another puts members in the order of their names. Neither changes what is found by a name.
use Rattle.std.proofs.Common.{◌≡◌, ℕ, Bool, true, false, List, length, Option, Some, None, refl, ap, sym, ◌∙◌, true≢false, inl, inr}
use Rattle.std.specs.Prelude.{option_map, bytes_eq, codes, ◌==◌}
use Rattle.std.proofs.lemmas.Bool.{cases_Bool, cond_both}
use Rattle.std.proofs.lemmas.Slice.Eq.{bytes_eq-Decides}
use Rattle.nla_frames.specs.Value.{ends_in_nul}
use Rattle.nla_frames.specs.Frame.{padding}
use Rattle.serde_json.specs.Data.{Data, Num, number, string, boolean, array, object, unsigned, Items, no_items, item, Members, no_members, member, put}
use Rattle.serde_json.specs.Find.{as_str, get, get_member}
use Rattle.serde_json.proofs.Views.{get_member-put, get_member-put_other}
use Rattle.forms_attributes.specs.Attributes.{bare_member, pad_member, beside}
use Rattle.forms_attributes.specs.Frames.{PaddedFrame}
use Rattle.forms_json.specs.Ordered.{ordered, ordered_items, ordered_members}
use Rattle.forms_values.specs.Raw.{hex, one}
use Rattle.forms_values.specs.Records.{is_blank}
use Rattle.forms_values.proofs.Members.{here, passes}
use Rattle.forms_json.proofs.Found.{get_bare_member, no_bare_beside, not_pad_member, get_beside}
use Rattle.forms_values.proofs.Search.{none_not_some}

-- ---- what is shown names each member once

-- no two members have one name
abbrev pub Distinct : Members → Type 0
Distinct no_members = Unit {0}
Distinct (member k d ms) = (get_member k ms ≡ None) × Distinct ms

pub pad_distinct : (c : PaddedFrame) → Distinct (pad_member c)
pad_distinct c =
    cond_both (is_blank (Some (padding (length c.value))) c.pad) no_members (member (codes "pad") (hex c.pad) no_members) Distinct
    (λ blank. tt) (λ shown. (refl, tt))

beside_distinct : (word : ℕ) (c : PaddedFrame) → Distinct (beside word c)
beside_distinct word c =
    cond_both (c.word == word) (pad_member c) (member (codes "word") (number (unsigned c.word)) (pad_member c)) Distinct (λ same. pad_distinct c)
    (λ other. (not_pad_member (codes "word") c refl, pad_distinct c))

pub named_distinct : (name : List ℕ) (x : Data) (word : ℕ) (c : PaddedFrame) → bytes_eq name (codes "word") ≡ false → bytes_eq name (codes "pad") ≡ false
    → Distinct (member name x (beside word c))
named_distinct name x word c w p = (get_beside word c name w ∙ not_pad_member name c p, beside_distinct word c)

pub kind_distinct : (t : List ℕ) (c : PaddedFrame) → Distinct (member (codes "Kind") (string t) (bare_member c.value (beside 1 c)))
kind_distinct t c = (
  get_bare_member c.value (beside 1 c) (codes "Kind") refl ∙ get_beside 1 c (codes "Kind") refl ∙ not_pad_member (codes "Kind") c refl,
  cond_both (ends_in_nul c.value) (beside 1 c) (member (codes "bare") (boolean true) (beside 1 c)) Distinct (λ ends. beside_distinct 1 c)
      (λ bare. (no_bare_beside 1 c, beside_distinct 1 c)),
)

-- ---- readers

abbrev pub each_item : (Data → Data) → Items → Items
each_item read no_items = no_items
each_item read (item d ds) = item (read d) (each_item read ds)

-- a reader keeps texts, numbers and truth values, the order of a list, and what is found by a name
pub record Reader (read : Data → Data) : Type 0 where
  pub of_text : (s : List ℕ) → read (string s) ≡ string s
  pub of_number : (n : Num) → read (number n) ≡ number n
  pub of_truth : (b : Bool) → read (boolean b) ≡ boolean b
  pub of_list : (ds : Items) → read (array ds) ≡ array (each_item read ds)
  pub of_one : (name : List ℕ) (d : Data) → read (one name d) ≡ one name (read d)
  pub found : (ms : Members) (q : List ℕ) → Distinct ms → get q (read (object ms)) ≡ option_map read (get_member q ms)
  pub no_text : (ms : Members) → as_str (read (object ms)) ≡ None

-- JSON unchanged
each_same : (ds : Items) → ds ≡ each_item (λ d. d) ds
each_same no_items = refl
each_same (item d ds) = ap (item d) (each_same ds)

found_same : (o : Option Data) → o ≡ option_map (λ d. d) o
found_same None = refl
found_same (Some d) = refl

pub as_it_is : Reader (λ d. d)
as_it_is = record {
  of_text = λ s. refl;
  of_number = λ n. refl;
  of_truth = λ b. refl;
  of_list = λ ds. ap array (each_same ds);
  of_one = λ name d. refl;
  found = λ ms q a. found_same (get_member q ms);
  no_text = λ ms. refl;
}

-- members in the order of their names
each_ordered : (ds : Items) → ordered_items ds ≡ each_item ordered ds
each_ordered no_items = refl
each_ordered (item d ds) = ap (item (ordered d)) (each_ordered ds)

differs : (q k : List ℕ) → bytes_eq q k ≡ false → q ≡ k → ⊥
differs q k e same = true≢false (sym ((bytes_eq-Decides q k).1 same) ∙ e)

kept : (ms before : Members) (q : List ℕ) → get_member q ms ≡ None → get_member q (ordered_members ms before) ≡ get_member q before
kept no_members before q e = refl
kept (member k d ms) before q e =
    elim (cases_Bool (bytes_eq q k)) [
      | inl same ↦
          let name = (bytes_eq-Decides q k).0 same in
          absurd (none_not_some d (sym e ∙ ap (λ (n : List ℕ). get_member n (member k d ms)) name ∙ here k d ms))
      | inr other ↦
          kept ms (put k (ordered d) before) q (sym (passes q k d ms other) ∙ e) ∙ get_member-put_other q k (ordered d) before (differs q k other)
    ]

found_so : (ms before : Members) (q : List ℕ) (x : Data) → Distinct ms → get_member q ms ≡ Some x → get_member q (ordered_members ms before) ≡ Some (ordered x)
found_so no_members before q x a e = absurd (none_not_some x e)
found_so (member k d ms) before q x a e =
    elim (cases_Bool (bytes_eq q k)) [
      | inl same ↦
          let name = (bytes_eq-Decides q k).0 same in
          let held : Some d ≡ Some x = sym (here k d ms) ∙ ap (λ (n : List ℕ). get_member n (member k d ms)) (sym name) ∙ e in
          ap (λ (n : List ℕ). get_member n (ordered_members ms (put k (ordered d) before))) name ∙ kept ms (put k (ordered d) before) k a.0
          ∙ get_member-put k (ordered d) before ∙ ap (option_map ordered) held
      | inr other ↦ found_so ms (put k (ordered d) before) q x a.1 (sym (passes q k d ms other) ∙ e)
    ]

found_ordered : (ms : Members) (q : List ℕ) → Distinct ms → get_member q (ordered_members ms no_members) ≡ option_map ordered (get_member q ms)
found_ordered ms q a = go (get_member q ms) refl
  where
    go : (o : Option Data) → get_member q ms ≡ o → get_member q (ordered_members ms no_members) ≡ option_map ordered (get_member q ms)
    go None e = kept ms no_members q e ∙ sym (ap (option_map ordered) e)
    go (Some x) e = found_so ms no_members q x a e ∙ sym (ap (option_map ordered) e)

pub in_order : Reader ordered
in_order = record {
  of_text = λ s. refl;
  of_number = λ n. refl;
  of_truth = λ b. refl;
  of_list = λ ds. ap array (each_ordered ds);
  of_one = λ name d. refl;
  found = found_ordered;
  no_text = λ ms. refl;
}

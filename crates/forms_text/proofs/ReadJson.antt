-- The text of JSON is read as this JSON, its members in the order of their names, and no object in it has a name twice.
use Rattle.std.proofs.Common.{ℕ, zero, suc, pos, negsuc, List, [], Some, None, refl, ap, sym, append-nil, arith, subst, inl, inr, true≢false}
use Rattle.std.proofs.Common.{◌≡◌, ◌≢◌, ◌≤◌, ◌∙◌}
use Rattle.std.specs.Prelude.{option_map, option_and_then, All, IsSomeAnd, bytes_eq}
use Rattle.std.proofs.lemmas.Bool.{cases_Bool}
use Rattle.std.proofs.lemmas.List.Elements.{All-cons}
use Rattle.std.proofs.lemmas.List.Kept.{AllPairs-cons}
use Rattle.std.proofs.lemmas.Slice.Eq.{bytes_eq-Decides}
use Rattle.json.specs.Json as json
use Rattle.json.specs.Json.{value, if_last, document}
use Rattle.json.specs.Lex.{tokens}
use Rattle.json.specs.Tree.{json_tokens, depth, items_depth, members_depth}
use Rattle.json.specs.Strict.{keys, AreDistinct, HasUniqueKeys, ItemsHaveUniqueKeys, MembersHaveUniqueKeys}
use Rattle.json.proofs.Printed.Trees.{value-json_tokens}
use Rattle.serde_json.specs.Data.{Num, unsigned, negative, float, Data, null, boolean, number, string, array, object, Items}
use Rattle.serde_json.specs.Data.{no_items, item, Members, no_members, member, put}
use Rattle.serde_json.specs.Find.{get_member}
use Rattle.serde_json.specs.Read.{of_json, of_items, of_members, read}
use Rattle.serde_json.specs.Written.{number_text, outline, items_outline, members_outline}
use Rattle.serde_json.proofs.Numbers.{number_of-decimal, number_of-negative}
use Rattle.forms_json.specs.Ordered.{ordered, ordered_items, ordered_members}
use Rattle.forms_json.proofs.Ordered.{Distinct}
use Rattle.forms_values.proofs.Search.{none_not_some}
use Rattle.forms_values.proofs.Members.{here, passes}
use Rattle.forms_text.specs.Read.{HasNamesOnce}
use Rattle.forms_text.specs.Text.{IsJsonText}
use Rattle.forms_text.proofs.Readable.{IsKept, Readable, ItemsReadable, MembersReadable}
use Rattle.forms_text.proofs.WrittenJson.{text_tokens}

-- ---- what the JSON of a text is read as

number_read : (x : Num) → IsKept x → of_json (json.number (number_text x)) ≡ Some (number x)
number_read (unsigned n) h = ap (option_map number) (number_of-decimal n h)
number_read (negative (pos n)) h = absurd h
number_read (negative (negsuc n)) h = ap (option_map number) (number_of-negative n h)
number_read (float x) h = absurd h

mutual
  json_read : (d : Data) (n : ℕ) → Readable d n → of_json (outline d) ≡ Some (ordered d)
  json_read null n h = absurd h
  json_read (boolean b) n h = refl
  json_read (number x) n h = number_read x h
  json_read (string s) n h = refl
  json_read (array ds) zero h = absurd h
  json_read (array ds) (suc n) h = ap (option_map array) (items_read ds n h)
  json_read (object ms) zero h = absurd h
  json_read (object ms) (suc n) h = ap (option_map object) (members_read ms no_members n h.1)

  items_read : (ds : Items) (n : ℕ) → ItemsReadable ds n → of_items (items_outline ds) ≡ Some (ordered_items ds)
  items_read no_items n h = refl
  items_read (item d ds) n h =
      ap (option_and_then (λ x. option_map (item x) (of_items (items_outline ds)))) (json_read d n h.0)
      ∙ ap (option_map (item (ordered d))) (items_read ds n h.1)

  members_read : (ms found : Members) (n : ℕ) → MembersReadable ms n → of_members (members_outline ms) found ≡ Some (ordered_members ms found)
  members_read no_members found n h = refl
  members_read (member k d ms) found n h =
      ap (option_and_then (λ x. of_members (members_outline ms) (put k x found))) (json_read d n h.0)
      ∙ members_read ms (put k (ordered d) found) n h.1

-- ---- how deep it nests

mutual
  json_depth : (d : Data) (n : ℕ) → Readable d n → depth (outline d) ≤ n
  json_depth null n h = absurd h
  json_depth (boolean b) n h = omega arith
  json_depth (number x) n h = omega arith
  json_depth (string s) n h = omega arith
  json_depth (array ds) zero h = absurd h
  json_depth (array ds) (suc n) h = omega (arith, items_deep ds n h)
  json_depth (object ms) zero h = absurd h
  json_depth (object ms) (suc n) h = omega (arith, members_deep ms n h.1)

  items_deep : (ds : Items) (n : ℕ) → ItemsReadable ds n → items_depth (items_outline ds) ≤ n
  items_deep no_items n h = omega arith
  items_deep (item d ds) n h = omega (arith, json_depth d n h.0, items_deep ds n h.1)

  members_deep : (ms : Members) (n : ℕ) → MembersReadable ms n → members_depth (members_outline ms) ≤ n
  members_deep no_members n h = omega arith
  members_deep (member k d ms) n h = omega (arith, json_depth d n h.0, members_deep ms n h.1)

-- ---- no name twice

-- a name that no member has
unlike : (k : List ℕ) (ms : Members) → get_member k ms ≡ None → All (λ l. k ≡ l → ⊥) (keys (members_outline ms))
unlike k no_members none = λ i d less e. omega (arith, less)
unlike k (member l d ms) none =
    elim (cases_Bool (bytes_eq k l)) [
      | inl same ↦ absurd (none_not_some d (sym none ∙ ap (λ (q : List ℕ). get_member q (member l d ms)) ((bytes_eq-Decides k l).0 same) ∙ here l d ms))
      | inr other ↦
          All-cons (λ q. k ≡ q → ⊥) l (keys (members_outline ms)) (λ e. true≢false (sym ((bytes_eq-Decides k l).1 e) ∙ other))
          (unlike k ms (sym (passes k l d ms other) ∙ none))
    ]

distinct : (ms : Members) → Distinct ms → AreDistinct (keys (members_outline ms))
distinct no_members a = λ i j d less within e. omega (arith, less, within)
distinct (member k d ms) a = AllPairs-cons (λ a b. a ≢ b) k (keys (members_outline ms)) (unlike k ms a.0) (distinct ms a.1)

mutual
  json_once : (d : Data) (n : ℕ) → Readable d n → HasUniqueKeys (outline d)
  json_once null n h = absurd h
  json_once (boolean b) n h = tt
  json_once (number x) n h = tt
  json_once (string s) n h = tt
  json_once (array ds) zero h = absurd h
  json_once (array ds) (suc n) h = items_once ds n h
  json_once (object ms) zero h = absurd h
  json_once (object ms) (suc n) h = (distinct ms h.0, members_once ms n h.1)

  items_once : (ds : Items) (n : ℕ) → ItemsReadable ds n → ItemsHaveUniqueKeys (items_outline ds)
  items_once no_items n h = tt
  items_once (item d ds) n h = (json_once d n h.0, items_once ds n h.1)

  members_once : (ms : Members) (n : ℕ) → MembersReadable ms n → MembersHaveUniqueKeys (members_outline ms)
  members_once no_members n h = tt
  members_once (member k d ms) n h = (json_once d n h.0, members_once ms n h.1)

-- ---- texts

-- the tokens of JSON are one value, if it nests at most this deep
whole : (levels : ℕ) (j : json.Json) → depth j ≤ levels → option_and_then (λ p. if_last p.0 p.1) (value levels (json_tokens j)) ≡ Some j
whole levels j h =
    ap (λ ts. option_and_then (λ p. if_last p.0 p.1) (value levels ts)) (sym (append-nil (json_tokens j)))
    ∙ ap (option_and_then (λ p. if_last p.0 p.1)) (value-json_tokens j levels [] h)

module _ (d : Data) (n : ℕ) (text : List ℕ) (h : Readable d n) (within : n ≤ 127) (is : IsJsonText d text) where
  same : tokens text ≡ json_tokens (outline d)
  same = text_tokens d n text h is

  pub text_read : read text ≡ Some (ordered d)
  text_read =
      ap (λ ts. option_and_then of_json (option_and_then (λ p. if_last p.0 p.1) (value 127 ts))) same
      ∙ ap (option_and_then of_json) (whole 127 (outline d) (omega (arith, within, json_depth d n h)))
      ∙ json_read d n h

  pub text_once : HasNamesOnce text
  text_once =
      subst (λ o. IsSomeAnd o HasUniqueKeys)
      (sym (ap (λ ts. option_and_then (λ p. if_last p.0 p.1) (value 128 ts)) same ∙ whole 128 (outline d) (omega (arith, within, json_depth d n h))))
      (json_once d n h)

-- The JSON of records leads back to them.
use Rattle.std.proofs.Common.{◌≡◌, ℕ, inl, inr, Bool, true, false, List, [], ◌∷◌, ◌++◌, length, Option, Some, None, refl, ap, sym, ◌∙◌, cond, true≢false}
use Rattle.std.specs.Prelude.{option_map, unwrap_or, replicate, ◌==◌, bytes_eq, codes, not, ◌&&◌}
use Rattle.std.proofs.lemmas.Bool.{cases_Bool, cond_both, and_parts, eqb-true}
use Rattle.std.proofs.lemmas.Slice.Eq.{bytes_eq-Decides}
use Rattle.std.proofs.lemmas.List.{append-nil, take-append-drop}
use Rattle.nla_frames.specs.Value.{IsBytes}
use Rattle.nla_frames.proofs.Bytes.{IsBytes-take, IsBytes-drop, IsBytes-nil}
use Rattle.serde_json.specs.Data.{Data, Members, no_members, member, string}
use Rattle.serde_json.specs.Find.{get, get_member}
use Rattle.forms_values.specs.declared.form.Form.{Form}
use Rattle.forms_values.specs.Raw.{hex, hex_made}
use Rattle.forms_values.specs.Records.{after_field, all_zero, are_distinct, field_made, field_member, field_of, fields_made, is_blank, is_free, is_pad}
use Rattle.forms_values.specs.Records.{members, rest_made, rest_member, zeros}
use Rattle.forms_values.specs.Tables.{Field, Table}
use Rattle.forms_values.specs.Widths.{field_width}
use Rattle.forms_values.proofs.Leaves.{all_zeros, same_bytes, hex_made-hex}
use Rattle.forms_values.proofs.Members.{here, passes}
use Rattle.forms_json.proofs.Frames.{joined_made}

pub not-false : (b : Bool) → not b ≡ true → b ≡ false
not-false true e = absurd (true≢false (sym e))
not-false false e = refl

pub swapped : (a b : List ℕ) → bytes_eq a b ≡ false → bytes_eq b a ≡ false
swapped a b e =
    elim (cases_Bool (bytes_eq b a)) [
      | inl same ↦ absurd (true≢false (sym ((bytes_eq-Decides a b).1 (sym ((bytes_eq-Decides b a).0 same))) ∙ e))
      | inr differs ↦ differs
    ]

-- ---- fields

whole_again : (w : Option ℕ) (b : List ℕ) → field_of w b ++ after_field w b ≡ b
whole_again None b = append-nil b
whole_again (Some w) b = take-append-drop w b

pub IsBytes-field_of : (w : Option ℕ) (b : List ℕ) → IsBytes b → IsBytes (field_of w b)
IsBytes-field_of None b h = h
IsBytes-field_of (Some w) b h = IsBytes-take w b h

pub IsBytes-after_field : (w : Option ℕ) (b : List ℕ) → IsBytes b → IsBytes (after_field w b)
IsBytes-after_field None b h = IsBytes-nil
IsBytes-after_field (Some w) b h = IsBytes-drop w b h

pub blank : (w : Option ℕ) (b : List ℕ) → is_blank w b ≡ true → b ≡ zeros w
blank w b e =
    let both = and_parts (length b == unwrap_or w 0) (all_zero b) e in
    all_zeros b both.1 ∙ ap (λ n. replicate n 0) (eqb-true (length b) (unwrap_or w 0) both.0)

abbrev rest : List ℕ
rest = codes "rest"

module _ (table : Table) (Inner : Form → List ℕ → Data) where
  -- past a field of another name
  pub past_field : (name : List ℕ) (f : Field) (chunk : List ℕ) (after : Members) → bytes_eq name f.name ≡ false
      → get_member name (field_member table Inner f chunk after) ≡ get_member name after
  past_field name f chunk after e =
      cond_both (is_pad f.form && is_blank (field_width table f) chunk) after (member f.name (Inner f.form chunk) after)
      (λ ms. get_member name ms ≡ get_member name after) (λ h. refl) (λ h. passes name f.name (Inner f.form chunk) after e)

  -- no field has this name
  pub absent : (name : List ℕ) (fs : List Field) (b : List ℕ) → is_free name fs ≡ true → bytes_eq name rest ≡ false
      → get_member name (members table Inner fs b) ≡ None
  absent name [] [] free e = refl
  absent name [] (x ∷ b) free e = passes name rest (hex (x ∷ b)) no_members e
  absent name (f ∷ fs) b free e =
      let both = and_parts (not (bytes_eq name f.name)) (is_free name fs) free in
      past_field name f (field_of (field_width table f) b) (members table Inner fs (after_field (field_width table f) b)) (not-false _ both.0)
      ∙ absent name fs (after_field (field_width table f) b) both.1 e

module _ (table : Table) (Inner : Form → List ℕ → Data) (Made : Form → Data → Option (List ℕ)) (read : Data → Data)
    (again : (f : Form) (b : List ℕ) → IsBytes b → Made f (read (Inner f b)) ≡ Some b) (of_text : (s : List ℕ) → read (string s) ≡ string s) where
  -- in this object, as it is read, each field from here on is found, and what is left
  abbrev Finds : Data → List Field → List ℕ → Type 0
  Finds d fs b =
      ((name : List ℕ) → is_free name fs ≡ false → get name d ≡ option_map read (get_member name (members table Inner fs b)))
      × (get rest d ≡ option_map read (get_member rest (members table Inner fs b)))

  free_later : (name : List ℕ) (f : Field) (fs : List Field) → is_free name fs ≡ false → is_free name (f ∷ fs) ≡ false
  free_later name f fs e = elim (not (bytes_eq name f.name)) as (λ t. (t && is_free name fs) ≡ false) [ true ↦ e | false ↦ refl ]

  free_here : (f : Field) (fs : List Field) → is_free f.name (f ∷ fs) ≡ false
  free_here f fs = ap (λ t. not t && is_free f.name fs) (same_bytes f.name)

  -- a name that a field has isn't one that no field has
  distinct : (name other : List ℕ) (fs : List Field) → is_free name fs ≡ false → is_free other fs ≡ true → bytes_eq name other ≡ false
  distinct name other fs e free =
      elim (cases_Bool (bytes_eq name other)) [
        | inl same ↦ absurd (true≢false (sym free ∙ ap (λ n. is_free n fs) (sym ((bytes_eq-Decides name other).0 same)) ∙ e))
        | inr differs ↦ differs
      ]

  rest_again : (b : List ℕ) → IsBytes b → rest_made (option_map read (get_member rest (rest_member b))) ≡ Some b
  rest_again [] h = refl
  rest_again (x ∷ b) h = ap hex_made (of_text _) ∙ hex_made-hex (x ∷ b) h

  pub fields_again : (fs : List Field) (b : List ℕ) (d : Data) → IsBytes b → Finds d fs b → are_distinct fs ≡ true → is_free rest fs ≡ true
      → fields_made table Made fs d ≡ Some b
  fields_again [] b d h finds all_distinct free = ap rest_made finds.1 ∙ rest_again b h
  fields_again (f ∷ fs) b d h finds all_distinct free =
      let w = field_width table f in
      let chunk = field_of w b in
      let later = after_field w b in
      let after = members table Inner fs later in
      let own = and_parts (is_free f.name fs) (are_distinct fs) all_distinct in
      let unlike_rest = and_parts (not (bytes_eq rest f.name)) (is_free rest fs) free in
      let finds_later : Finds d fs later = (
        λ name e. finds.0 name (free_later name f fs e)
            ∙ ap (option_map read) (past_field table Inner name f chunk after (distinct name f.name fs e own.0)),
        finds.1 ∙ ap (option_map read) (past_field table Inner rest f chunk after (not-false _ unlike_rest.0)),
      ) in
      joined_made (field_made table Made f (get f.name d)) (fields_made table Made fs d) chunk later b
      (ap (field_made table Made f) (finds.0 f.name (free_here f fs))
      ∙ field_again f fs chunk later (IsBytes-field_of w b h) own.0 (swapped rest f.name (not-false _ unlike_rest.0)))
      (fields_again fs later d (IsBytes-after_field w b h) finds_later own.1 unlike_rest.1) (whole_again w b)
    where
      field_again : (f : Field) (fs : List Field) (chunk later : List ℕ) → IsBytes chunk → is_free f.name fs ≡ true → bytes_eq f.name rest ≡ false
          → field_made table Made f (option_map read (get_member f.name (field_member table Inner f chunk (members table Inner fs later)))) ≡ Some chunk
      field_again f fs chunk later h own unlike =
          let pads = zeros (field_width table f) in
          let after = members table Inner fs later in
          cond_both (is_pad f.form && is_blank (field_width table f) chunk) after (member f.name (Inner f.form chunk) after)
          (λ ms. field_made table Made f (option_map read (get_member f.name ms)) ≡ Some chunk)
          (λ e.
          let both = and_parts (is_pad f.form) (is_blank (field_width table f) chunk) e in
          ap (λ o. field_made table Made f (option_map read o)) (absent table Inner f.name fs later own unlike) ∙ ap (λ t. cond t (Some pads) None) both.0
          ∙ ap Some (sym (blank (field_width table f) chunk both.1)))
          (λ e. ap (λ o. field_made table Made f (option_map read o)) (here f.name (Inner f.form chunk) after) ∙ again f.form chunk h)

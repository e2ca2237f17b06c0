-- The JSON of bytes leads back to them, with any table, in any form and under any kind.
use Rattle.forms_values.specs.declared.form.Form.TheVariants as form
use Rattle.std.proofs.Common.{◌≡◌, ℕ, zero, suc, inl, inr, Bool, true, false, List, [], ◌∷◌, ◌++◌, length, take, drop, Option, Some, None, refl, ap, sym}
use Rattle.std.proofs.Common.{◌∙◌, cond, true≢false, subst, arith}
use Rattle.std.specs.Prelude.{option_and_then, option_map, unwrap_or, bytes_eq, codes, ◌&&◌, ◌||◌, ◌==◌, ◌-◌, slice_index, not}
use Rattle.std.specs.Str.{is_utf8}
use Rattle.std.proofs.lemmas.Bool.{cases_Bool, cond_both, and_parts, eqb-true, eq-eqb}
use Rattle.std.proofs.lemmas.Slice.Eq.{bytes_eq-Decides}
use Rattle.std.proofs.lemmas.List.{take-append-drop}
use Rattle.nla_frames.specs.Value.{IsBytes, ends_in_nul}
use Rattle.nla_frames.proofs.Bytes.{IsBytes-drop}
use Rattle.serde_json.specs.Data.{Data, number, string, array, object, unsigned, no_members, member, boolean, item, Members, Items, no_items}
use Rattle.serde_json.specs.Find.{get, as_str}
use Rattle.forms_values.specs.declared.form.Number.{Number}
use Rattle.forms_values.specs.declared.form.Form.{Form}
use Rattle.forms_attributes.specs.Attributes.{attribute, by_kind, by_row, frames, indexed, layered, pad_member, bare_member, first_or_tail, tail_shown}
use Rattle.forms_attributes.specs.Attributes.{beside, kind_shown, word_and_hex}
use Rattle.forms_attributes.specs.AttributesMade.{attribute_made, by_kind_made, by_row_made, each_under, indexed_made, kinded_made, layered_made}
use Rattle.forms_attributes.specs.AttributesMade.{row_made, unlayered, word_made, word_or}
use Rattle.forms_values.specs.Choices.{by_choice, by_choice_made, choice_made, chosen, follows, is_choice, other_or}
use Rattle.forms_attributes.specs.Frames.{PaddedFrame, frame_bytes, after_first, front}
use Rattle.forms_attributes.specs.Kinds.{kind_text, kind_value, kind_in, kind_named, own_kind, own_kind_named}
use Rattle.forms_json.specs.Made.{in_form, make}
use Rattle.forms_values.specs.Numbers.{bits_of, bytes_of, is_number, name_of, named_made, named_or, num, number_of}
use Rattle.forms_values.specs.Places.{choices_of, fields_of, form_of, layer_of, names_of, part_at, rows_under}
use Rattle.forms_values.specs.Raw.{hex, hex_made, hex_of, of_length, one, or_raw, raw, raw_of}
use Rattle.forms_values.specs.Records.{are_enough, members, names_distinct, after_field, are_distinct, each_made, elements, elements_of, field_of, is_blank}
use Rattle.forms_values.specs.Records.{is_free, is_pad}
use Rattle.forms_attributes.specs.Rows.{counts, of_type, shown_row, type_of}
use Rattle.forms_values.specs.Search.{first, held}
use Rattle.forms_json.specs.Shown.{show, shown}
use Rattle.forms_values.specs.Tables.{Choice, Row, Table, Field, Name}
use Rattle.forms_values.specs.Values.{text_in, text_or_raw, truth_made, plain_shown}
use Rattle.forms_values.specs.Widths.{fixed, number_width, field_width}
use Rattle.forms_values.proofs.Leaves.{hex_made-hex, raw_of-raw, mac_of-mac_text, ipv4_of-ipv4_text, ipv6_of-ipv6_text, number_again, handle_again}
use Rattle.forms_values.proofs.Leaves.{bytes_of-bits_of}
use Rattle.forms_json.proofs.Frames.{Stands, frames_again, own_again, elements_of-again}
use Rattle.forms_json.proofs.RecordsAgain.{swapped, absent, not-false, fields_again}
use Rattle.forms_values.proofs.Members.{here, passes}
use Rattle.forms_json.proofs.Found.{bare_seen, kind_finds, kind_again, get_pad_member, not_pad_member, pad_seen, Finds, finds, word_again, framed_again}
use Rattle.forms_json.proofs.Found.{plain}
use Rattle.forms_values.proofs.Search.{none_not_some, some_is, Guarded, guarded, held_again}
use Rattle.nla_frames.specs.Frame.{padding}
use Rattle.forms_json.specs.Ordered.{ordered}
use Rattle.forms_json.proofs.Ordered.{Distinct, Reader, as_it_is, in_order, each_item, pad_distinct, named_distinct, kind_distinct}

no_bytes : (b : List ℕ) → length b ≡ 0 → [] ≡ b
no_bytes [] e = refl
no_bytes (x ∷ b) e = absurd (omega (arith, e))

-- the JSON of a text is this text
pub text_again : (b t : List ℕ) → text_in b ≡ Some t → t ++ 0 ∷ [] ≡ b
text_again b t e =
    cond_both (bytes_eq (take (length b - 1) b ++ 0 ∷ []) b && is_utf8 (take (length b - 1) b)) (Some (take (length b - 1) b)) None
    (λ o. o ≡ Some t → t ++ 0 ∷ [] ≡ b)
    (λ holds same.
    let cut = some_is (take (length b - 1) b) t same in
    ap (λ (x : List ℕ). x ++ 0 ∷ []) (sym cut) ∙ (bytes_eq-Decides (take (length b - 1) b ++ 0 ∷ []) b).0 (and_parts _ _ holds).0)
    (λ fails same. absurd (none_not_some t same)) e

-- ---- attributes, in any object where their members are found

-- the kind that a frame sets in a list that has kinds
pub kind_word : (has : Bool) (c : PaddedFrame) (t : List ℕ) → kind_in has c ≡ Some t → (has ≡ true) × (kind_text c.value ≡ Some t)
kind_word has c t e =
    elim (cases_Bool (has && type_of c.word == 1)) [
      | inl holds ↦ ((and_parts has (type_of c.word == 1) holds).0, sym (ap (λ x. cond x (kind_text c.value) None) holds) ∙ e)
      | inr fails ↦ absurd (none_not_some t (sym (ap (λ x. cond x (kind_text c.value) None) fails) ∙ e))
    ]

not_raw : (d : Data) (name : List ℕ) (x : Data) (mark : Option Data) (word : ℕ) (c : PaddedFrame) → Finds d name x mark word c
    → bytes_eq (codes "raw") name ≡ false → raw_of d ≡ None
not_raw d name x mark word c f e = ap (option_and_then hex_made) (f.none (codes "raw") e refl refl refl)

-- no kind is named
no_kind : (has : Bool) (d : Data) → get (codes "Kind") d ≡ None → kind_named has d ≡ None
no_kind true d e = ap (option_and_then as_str) e
no_kind false d e = refl

module _ (Made : List ℕ → Form → Data → Option (List ℕ)) (rows : List Row) (has : Bool) where
  -- the bytes that an attribute's JSON must lead back to
  record Again (k : List ℕ) (c : PaddedFrame) (d : Data) : Type 0 where
    made : attribute_made Made rows has k d ≡ Some (frame_bytes c)
    kind : kind_named has d ≡ kind_in has c
    not_raw : raw_of d ≡ None
    no_text : as_str d ≡ None

  kind_found : (k : List ℕ) (c : PaddedFrame) (t : List ℕ) (d : Data) → kind_in has c ≡ Some t → Stands c
      → Finds d (codes "Kind") (string t) (bare_seen c.value) 1 c → Again k c d
  kind_found k c t d e s f =
      let both = kind_word has c t e in
      let kind : kind_named has d ≡ Some t = ap (λ h. kind_named h d) both.0 ∙ ap (option_and_then as_str) f.it in
      record {
        made =
            ap (by_kind_made Made rows has k d) kind
            ∙ framed_again c d (word_or 1 (get (codes "word") d)) (kind_value t (get (codes "bare") d)) s (ap (word_or 1) f.word ∙ word_again 1 c s)
            (ap (kind_value t) f.bare ∙ kind_again c.value t both.1) f.pad;
        kind = kind ∙ sym e;
        not_raw = not_raw d (codes "Kind") (string t) (bare_seen c.value) 1 c f refl;
        no_text = f.no_text;
      }

  other_found : (k : List ℕ) (c : PaddedFrame) (x d : Data) → kind_in has c ≡ None → Stands c → Finds d (codes "Other") x None c.word c
      → get (codes "word") x ≡ Some (number (unsigned c.word)) → get (codes "value") x ≡ Some (hex c.value) → Again k c d
  other_found k c x d e s f word value =
      let kind = no_kind has d (f.none (codes "Kind") refl refl refl refl) in
      record {
        made =
            ap (by_kind_made Made rows has k d) kind ∙ ap (by_row_made Made rows has k d) f.it
            ∙ framed_again c d (option_and_then word_made (get (codes "word") x)) (option_and_then hex_made (get (codes "value") x)) s
            (ap (option_and_then word_made) word ∙ s.word) (ap (option_and_then hex_made) value ∙ hex_made-hex c.value s.value) f.pad;
        kind = kind ∙ sym e;
        not_raw = not_raw d (codes "Other") x None c.word c f refl;
        no_text = f.no_text;
      }

  row_found : (k : List ℕ) (c : PaddedFrame) (r : Row) (x d : Data) → kind_in has c ≡ None → Stands c
      → Guarded rows (λ (q : Row). q.name) counts (λ q. type_of q.word == type_of c.word) r → Finds d r.name x None r.word c
      → Made k r.form x ≡ Some c.value → Again k c d
  row_found k c r x d e s g f made =
      let name = r.name in
      let own = plain name g.passed in
      let kind = no_kind has d (f.none (codes "Kind") (swapped name (codes "Kind") own.kind) refl refl refl) in
      let found =
      held_again rows (λ (q : Row). q.name) counts (λ q. type_of q.word == type_of c.word) rows d x name r g.itself f.it
      (λ q pass differs.
      let its = plain q.name pass in f.none q.name differs its.word its.pad its.bare) in
      record {
        made =
            ap (by_kind_made Made rows has k d) kind
            ∙ ap (by_row_made Made rows has k d) (f.none (codes "Other") (swapped name (codes "Other") own.other) refl refl refl)
            ∙ ap (row_made Made rows has k d) found
            ∙ framed_again c d (word_or r.word (get (codes "word") d)) (Made k r.form x) s (ap (word_or r.word) f.word ∙ word_again r.word c s) made f.pad;
        kind = kind ∙ sym e;
        not_raw = not_raw d name x None r.word c f (swapped name (codes "raw") own.raw);
        no_text = f.no_text;
      }

  other_finds : (c : PaddedFrame) (x : Data) → Finds (object (member (codes "Other") x (pad_member c))) (codes "Other") x None c.word c
  other_finds c x =
      subst (λ ms. Finds (object (member (codes "Other") x ms)) (codes "Other") x None c.word c)
      (ap (λ t. cond t (pad_member c) (member (codes "word") (number (unsigned c.word)) (pad_member c))) (eq-eqb c.word c.word refl))
      (finds (codes "Other") x c.word c refl refl refl)

  -- in a list
  in_list : (k : List ℕ) (c : PaddedFrame) (d : Data) → Again k c d → or_raw (raw_of d) (attribute_made Made rows has k d) ≡ Some (frame_bytes c)
  in_list k c d a = ap (λ o. or_raw o (attribute_made Made rows has k d)) a.not_raw ∙ a.made

  -- in a list whose items have a layer
  in_layer : (layer k : List ℕ) (c : PaddedFrame) (d : Data) → Again k c d
      → or_raw (raw_of (layered layer d)) (option_and_then (attribute_made Made rows has k) (unlayered layer (layered layer d))) ≡ Some (frame_bytes c)
  in_layer [] k c d a = in_list k c d a
  in_layer (x ∷ layer) k c d a =
      let name = x ∷ layer in
      ap (λ o. or_raw o (option_and_then (attribute_made Made rows has k) (get name (one name d)))) (no_bytes_held (bytes_eq (codes "raw") name) refl)
      ∙ ap (option_and_then (attribute_made Made rows has k)) (here name d no_members) ∙ a.made
    where
      no_bytes_held : (t : Bool) → bytes_eq (codes "raw") (x ∷ layer) ≡ t → raw_of (one (x ∷ layer) d) ≡ None
      no_bytes_held true e =
          ap (option_and_then hex_made) (ap (λ (n : List ℕ). get n (one (x ∷ layer) d)) ((bytes_eq-Decides (codes "raw") (x ∷ layer)).0 e)
          ∙ here (x ∷ layer) d no_members)
          ∙ ap (option_and_then hex_of) a.no_text
      no_bytes_held false e = ap (option_and_then hex_made) (passes (codes "raw") (x ∷ layer) d no_members e)

-- ---- values that hold no others

module _ (table : Table) (Made : List ℕ → Form → Data → Option (List ℕ)) where
  abbrev Holds : List ℕ → Form → Data → List ℕ → Type 0
  Holds k f d b = or_raw (raw_of d) (in_form table Made k f d) ≡ Some b

  raw_again : (k : List ℕ) (f : Form) (b : List ℕ) → IsBytes b → Holds k f (raw b) b
  raw_again k f b h = ap (λ o. or_raw o (in_form table Made k f (raw b))) (raw_of-raw b h)

  -- the JSON in the form if a test holds, else raw
  tested : (k : List ℕ) (f : Form) (t : Bool) (d : Data) (b : List ℕ) → IsBytes b → (t ≡ true → Holds k f d b) → Holds k f (cond t d (raw b)) b
  tested k f t d b h stands = cond_both t d (raw b) (λ x. Holds k f x b) stands (λ e. raw_again k f b h)

  named_again : (k : List ℕ) (n : Number) (i : ℕ) (b : List ℕ) (o : Option (List ℕ)) → length b ≡ number_width n → IsBytes b
      → Holds k (form.Named n i) (named_or (names_of (part_at table i)) (bits_of n b) (one (codes "Other") (number (num n (bits_of n b)))) o) b
  named_again k n i b None len h = number_again n b len h
  named_again k n i b (Some name) len h =
      let names = names_of (part_at table i) in
      cond_both (is_number (number_of names name) (bits_of n b)) (string name) (one (codes "Other") (number (num n (bits_of n b))))
      (λ d. Holds k (form.Named n i) d b) (λ e. by_number (number_of names name) e) (λ e. number_again n b len h)
    where
      by_number : (m : Option ℕ) → is_number m (bits_of n b) ≡ true → named_made n m (string name) ≡ Some b
      by_number None e = absurd (true≢false (sym e))
      by_number (Some m) e = ap (λ x. Some (bytes_of n x)) (eqb-true m (bits_of n b) e) ∙ ap Some (bytes_of-bits_of n b len h)

  truth_again : (b : List ℕ) → (bytes_eq b (0 ∷ []) || bytes_eq b (1 ∷ [])) ≡ true → Some (truth_made (slice_index b 0 == 1)) ≡ Some b
  truth_again b e =
      elim (cases_Bool (bytes_eq b (0 ∷ []))) [
        | inl zero_is ↦
            let is = (bytes_eq-Decides b (0 ∷ [])).0 zero_is in
            ap (λ (x : List ℕ). Some (truth_made (slice_index x 0 == 1))) is ∙ ap Some (sym is)
        | inr another ↦
            let is = (bytes_eq-Decides b (1 ∷ [])).0 (sym (ap (λ t. t || bytes_eq b (1 ∷ [])) another) ∙ e) in
            ap (λ (x : List ℕ). Some (truth_made (slice_index x 0 == 1))) is ∙ ap Some (sym is)
      ]

  plain_again : (k : List ℕ) (f : Form) (b : List ℕ) → IsBytes b → Holds k f (plain_shown table f b) b
  plain_again k (form.Number n) b h = tested k (form.Number n) (length b == number_width n) _ b h (λ e. number_again n b (eqb-true _ _ e) h)
  plain_again k (form.Named n i) b h =
      tested k (form.Named n i) (length b == number_width n) _ b h
      (λ e. named_again k n i b (name_of (names_of (part_at table i)) (bits_of n b)) (eqb-true _ _ e) h)
  plain_again k form.Handle b h = tested k form.Handle (length b == 4) _ b h (λ e. handle_again b (eqb-true _ _ e) h)
  plain_again k form.Flag b h = tested k form.Flag (length b == 0) _ b h (λ e. ap Some (no_bytes b (eqb-true _ _ e)))
  plain_again k form.Truth b h = tested k form.Truth (bytes_eq b (0 ∷ []) || bytes_eq b (1 ∷ [])) _ b h (λ e. truth_again b e)
  plain_again k form.Text b h = by_text (text_in b) refl
    where
      by_text : (o : Option (List ℕ)) → text_in b ≡ o → Holds k form.Text (text_or_raw b o) b
      by_text None e = raw_again k form.Text b h
      by_text (Some t) e = ap Some (text_again b t e)
  plain_again k form.Bare b h = tested k form.Bare (is_utf8 b) _ b h (λ e. refl)
  plain_again k form.Hex b h = hex_made-hex b h
  plain_again k (form.Bytes n) b h = tested k (form.Bytes n) (length b == n) _ b h
      (λ e. ap (option_and_then (of_length n)) (hex_made-hex b h) ∙ ap (λ t. cond t (Some b) None) e)
  plain_again k (form.Pad n) b h = tested k (form.Pad n) (length b == n) _ b h
      (λ e. ap (option_and_then (of_length n)) (hex_made-hex b h) ∙ ap (λ t. cond t (Some b) None) e)
  plain_again k form.Mac b h = tested k form.Mac (length b == 6) _ b h (λ e. mac_of-mac_text b (eqb-true _ _ e) h)
  plain_again k form.Ipv4 b h = tested k form.Ipv4 (length b == 4) _ b h (λ e. ipv4_of-ipv4_text b (eqb-true _ _ e) h)
  plain_again k form.Ipv6 b h = tested k form.Ipv6 (length b == 16) _ b h (λ e. ipv6_of-ipv6_text b (eqb-true _ _ e) h)
  plain_again k f b h = raw_again k f b h

  -- ---- choices

  choice_found : (k : List ℕ) (cs : List Choice) (b : List ℕ) (c : Choice) (x d : Data) → IsBytes b
      → Guarded cs (λ (q : Choice). q.name) is_choice (follows b) c → get c.name d ≡ Some x
      → ((q : List ℕ) → bytes_eq q c.name ≡ false → get q d ≡ None) → Made k c.form x ≡ Some (drop (length c.prefix) b)
      → or_raw (raw_of d) (by_choice_made (Made k) cs d) ≡ Some b
  choice_found k cs b c x d h g found none made =
      let name = c.name in
      let own = plain name g.passed in
      let fits = and_parts (is_choice c) _ g.second_too in
      let begins = (bytes_eq-Decides (take (length c.prefix) b) c.prefix).0 (and_parts (unwrap_or c.len (length b) == length b) _ fits.1).1 in
      let held_so =
      held_again cs (λ (q : Choice). q.name) is_choice (follows b) cs d x name c g.itself found (λ q pass differs. none q.name differs) in
      ap (λ o. or_raw (option_and_then hex_made o) (by_choice_made (Made k) cs d)) (none (codes "raw") (swapped name (codes "raw") own.raw))
      ∙ ap (λ o. other_or (Made k) o (held (λ q. q.name) is_choice cs d)) (none (codes "Other") (swapped name (codes "Other") own.other))
      ∙ ap (choice_made (Made k)) held_so
      ∙ ap (option_map (λ (t : List ℕ). c.prefix ++ t)) made
      ∙ ap Some (ap (λ (t : List ℕ). t ++ drop (length c.prefix) b) (sym begins) ∙ take-append-drop (length c.prefix) b)

  -- ---- lists

  indexed_found : (k : List ℕ) (i : ℕ) (c : PaddedFrame) (x d : Data) → Stands c → get (codes "raw") d ≡ None
      → get (codes "tab") d ≡ Some (number (unsigned c.word))
      → get (codes "attributes") d ≡ Some x → get (codes "pad") d ≡ pad_seen c → Made k (form_of i (part_at table i)) x ≡ Some c.value
      → or_raw (raw_of d) (indexed_made table Made i k d) ≡ Some (frame_bytes c)
  indexed_found k i c x d s no_raw tab held pad made =
      ap (λ o. or_raw (option_and_then hex_made o) (indexed_made table Made i k d)) no_raw
      ∙ framed_again c d (option_and_then word_made (get (codes "tab") d))
      (option_and_then (Made k (form_of i (part_at table i))) (get (codes "attributes") d)) s
      (ap (option_and_then word_made) tab ∙ s.word) (ap (option_and_then (Made k (form_of i (part_at table i)))) held ∙ made) pad

-- ---- as it is read

module _ (read : Data → Data) (r : Reader read) where
  raw_read : (b : List ℕ) → read (raw b) ≡ raw b
  raw_read b = r.of_one (codes "raw") _ ∙ ap (one (codes "raw")) (r.of_text _)

  cond_read : (t : Bool) (d : Data) (b : List ℕ) → read d ≡ d → read (cond t d (raw b)) ≡ cond t d (raw b)
  cond_read t d b e = cond_both t d (raw b) (λ x. read x ≡ x) (λ holds. e) (λ fails. raw_read b)

  named_read : (names : List Name) (n : ℕ) (d : Data) (o : Option (List ℕ)) → read d ≡ d → read (named_or names n d o) ≡ named_or names n d o
  named_read names n d None e = e
  named_read names n d (Some name) e =
      cond_both (is_number (number_of names name) n) (string name) d (λ x. read x ≡ x) (λ is. r.of_text name) (λ other. e)

  text_read : (b : List ℕ) (o : Option (List ℕ)) → read (text_or_raw b o) ≡ text_or_raw b o
  text_read b None = raw_read b
  text_read b (Some t) = r.of_text t

  plain_read : (table : Table) (f : Form) (b : List ℕ) → read (plain_shown table f b) ≡ plain_shown table f b
  plain_read table (form.Number k) b = cond_read (length b == number_width k) _ b (r.of_number _)
  plain_read table (form.Named k i) b =
      cond_read (length b == number_width k) _ b
      (named_read (names_of (part_at table i)) (bits_of k b) _ (name_of (names_of (part_at table i)) (bits_of k b))
      (r.of_one (codes "Other") _ ∙ ap (one (codes "Other")) (r.of_number _)))
  plain_read table form.Handle b = cond_read (length b == 4) _ b (r.of_text _)
  plain_read table form.Flag b = cond_read (length b == 0) _ b (r.of_truth _)
  plain_read table form.Truth b = cond_read (bytes_eq b (0 ∷ []) || bytes_eq b (1 ∷ [])) _ b (r.of_truth _)
  plain_read table form.Bare b = cond_read (is_utf8 b) _ b (r.of_text _)
  plain_read table form.Text b = text_read b (text_in b)
  plain_read table form.Hex b = r.of_text _
  plain_read table (form.Bytes n) b = cond_read (length b == n) _ b (r.of_text _)
  plain_read table (form.Pad n) b = cond_read (length b == n) _ b (r.of_text _)
  plain_read table form.Mac b = cond_read (length b == 6) _ b (r.of_text _)
  plain_read table form.Ipv4 b = cond_read (length b == 4) _ b (r.of_text _)
  plain_read table form.Ipv6 b = cond_read (length b == 16) _ b (r.of_text _)
  plain_read table f b = raw_read b

  -- ---- attributes

  seen_read : (t : Bool) (d : Data) → read d ≡ d → option_map read (cond t None (Some d)) ≡ cond t None (Some d)
  seen_read true d e = refl
  seen_read false d e = ap Some e

  pad_seen_read : (c : PaddedFrame) → option_map read (pad_seen c) ≡ pad_seen c
  pad_seen_read c = seen_read (is_blank (Some (padding (length c.value))) c.pad) (hex c.pad) (r.of_text _)

  finds_read : (ms : Members) (name : List ℕ) (x : Data) (mark : Option Data) (word : ℕ) (c : PaddedFrame) → Distinct ms → option_map read mark ≡ mark
      → Finds (object ms) name x mark word c → Finds (read (object ms)) name (read x) mark word c
  finds_read ms name x mark word c a kept f = record {
    it = r.found ms name a ∙ ap (option_map read) f.it;
    bare = r.found ms (codes "bare") a ∙ ap (option_map read) f.bare ∙ kept;
    word = r.found ms (codes "word") a ∙ ap (option_map read) f.word ∙ seen_read (c.word == word) (number (unsigned c.word)) (r.of_number _);
    pad = r.found ms (codes "pad") a ∙ ap (option_map read) f.pad ∙ pad_seen_read c;
    none = λ q own w p b. r.found ms q a ∙ ap (option_map read) (f.none q own w p b);
    no_text = r.no_text ms;
  }

  layered_read : (layer : List ℕ) (d : Data) → read (layered layer d) ≡ layered layer (read d)
  layered_read [] d = refl
  layered_read (x ∷ layer) d = r.of_one (x ∷ layer) d

  tail_read : (b : List ℕ) → each_item read (tail_shown b) ≡ tail_shown b
  tail_read [] = refl
  tail_read (x ∷ b) = ap (λ d. item d no_items) (raw_read (x ∷ b))

  frames_read : (One : List ℕ → PaddedFrame → Data) (has : Bool) (n : ℕ) (k b : List ℕ)
      → each_item read (frames One has n k b) ≡ frames (λ j c. read (One j c)) has n k b
  frames_read One has zero k b = tail_read b
  frames_read One has (suc n) k b = go (front b) (λ j. frames_read One has n j (after_first b))
    where
      go : (o : Option PaddedFrame)
          → ((j : List ℕ) → each_item read (frames One has n j (after_first b)) ≡ frames (λ j c. read (One j c)) has n j (after_first b))
          → each_item read (first_or_tail One has k b (λ j. frames One has n j (after_first b)) o)
          ≡ first_or_tail (λ j c. read (One j c)) has k b (λ j. frames (λ j c. read (One j c)) has n j (after_first b)) o
      go None e = tail_read b
      go (Some c) e =
          let j = unwrap_or (kind_in has c) k in ap (item (read (One j c))) (e j)

  list_again : (Each : List ℕ → Data → Option (List ℕ)) (One : List ℕ → PaddedFrame → Data) (has : Bool)
      → ((k : List ℕ) (c : PaddedFrame) → Stands c → kind_named has (read (One k c)) ≡ kind_in has c)
      → ((k : List ℕ) (c : PaddedFrame) → Stands c → or_raw (raw_of (read (One k c))) (Each k (read (One k c))) ≡ Some (frame_bytes c))
      → (n : ℕ) (k b : List ℕ) → IsBytes b → each_under Each has k (each_item read (frames One has n k b)) ≡ Some b
  list_again Each One has kinds ones n k b h =
      ap (each_under Each has k) (frames_read One has n k b) ∙ frames_again Each (λ j c. read (One j c)) has kinds ones n k b h

  elements_read : (Inner : Form → List ℕ → Data) (n : ℕ) (f : Form) (w : ℕ) (b : List ℕ)
      → each_item read (elements Inner n f w b) ≡ elements (λ g x. read (Inner g x)) n f w b
  elements_read Inner n f w [] = refl
  elements_read Inner zero f w (x ∷ b) = refl
  elements_read Inner (suc n) f w (x ∷ b) = ap (item (read (Inner f (take w (x ∷ b))))) (elements_read Inner n f w (drop w (x ∷ b)))

  elements_of_read : (Inner : Form → List ℕ → Data) (f : Form) (w : Option ℕ) (b : List ℕ)
      → each_item read (elements_of Inner f w b) ≡ elements_of (λ g x. read (Inner g x)) f w b
  elements_of_read Inner f None b = refl
  elements_of_read Inner f (Some w) b = elements_read Inner (length b) f w b

  module _ (Inner : List ℕ → Form → List ℕ → Data) (Made : List ℕ → Form → Data → Option (List ℕ))
      (again : (k : List ℕ) (f : Form) (b : List ℕ) → IsBytes b → Made k f (read (Inner k f b)) ≡ Some b) where
    attribute_again : (rows : List Row) (has : Bool) (k : List ℕ) (c : PaddedFrame) → Stands c → Again Made rows has k c (read (attribute Inner rows has k c))
    attribute_again rows has k c s = by_kind_again (kind_in has c) refl
      where
        by_row_again : (o : Option Row) → shown_row rows c.word ≡ o → kind_in has c ≡ None → Again Made rows has k c (read (by_row Inner rows has k c o))
        by_row_again None is e =
            let x = word_and_hex c in
            let ms = member (codes "Other") x (pad_member c) in
            let found = r.found (member (codes "word") (number (unsigned c.word)) (member (codes "value") (hex c.value) no_members)) in
            other_found Made rows has k c (read x) _ e s
            (finds_read ms (codes "Other") x None c.word c (not_pad_member (codes "Other") c refl, pad_distinct c) refl (other_finds Made rows has c x))
            (found (codes "word") (refl, (refl, tt)) ∙ ap Some (r.of_number _)) (found (codes "value") (refl, (refl, tt)) ∙ ap Some (r.of_text _))
        by_row_again (Some q) is e =
            let g = guarded rows (λ (q : Row). q.name) counts (λ q. type_of q.word == type_of c.word) (first (of_type c.word) rows) q is in
            let own = plain q.name g.passed in
            let x = Inner k q.form c.value in
            row_found Made rows has k c q (read x) _ e s g
            (finds_read (member q.name x (beside q.word c)) q.name x None q.word c (named_distinct q.name x q.word c own.word own.pad) refl
            (finds q.name x q.word c (swapped q.name (codes "word") own.word) (swapped q.name (codes "pad") own.pad)
            (swapped q.name (codes "bare") own.bare)))
            (again k q.form c.value s.value)

        by_kind_again : (o : Option (List ℕ)) → kind_in has c ≡ o → Again Made rows has k c (read (by_kind Inner rows has k c o))
        by_kind_again (Some t) e =
            kind_found Made rows has k c t _ e s
            (subst (λ x. Finds (read (kind_shown c t)) (codes "Kind") x (bare_seen c.value) 1 c) (r.of_text t)
            (finds_read (member (codes "Kind") (string t) (bare_member c.value (beside 1 c))) (codes "Kind") (string t) (bare_seen c.value) 1 c
            (kind_distinct t c) (seen_read (ends_in_nul c.value) (boolean true) (r.of_truth true)) (kind_finds t c)))
        by_kind_again None e = by_row_again (shown_row rows c.word) refl e

    -- ---- any form

    module _ (table : Table) where
      abbrev Again_in : List ℕ → Form → Data → List ℕ → Type 0
      Again_in k f d b = Holds table Made k f (read d) b

      in_array : (k : List ℕ) (f : Form) (ds : Items) (b : List ℕ) → Holds table Made k f (array (each_item read ds)) b → Again_in k f (array ds) b
      in_array k f ds b holds = subst (λ d. Holds table Made k f d b) (sym (r.of_list ds)) holds

      kinded_again : (i : ℕ) (has : Bool) (n : ℕ) (k b : List ℕ) → IsBytes b
          → ((j : List ℕ) (c : PaddedFrame) → Stands c → kind_named has (read (attribute Inner (rows_under table i j) true j c)) ≡ kind_in has c)
          → each_under (kinded_made table Made i) has k (each_item read (frames (λ j c. attribute Inner (rows_under table i j) true j c) has n k b)) ≡ Some b
      kinded_again i has n k b h kinds =
          list_again (kinded_made table Made i) (λ j c. attribute Inner (rows_under table i j) true j c) has kinds
          (λ j c s. in_list Made (rows_under table i j) true j c _ (attribute_again (rows_under table i j) true j c s)) n k b h

      indexed_again : (k : List ℕ) (i : ℕ) (c : PaddedFrame) → Stands c
          → or_raw (raw_of (read (indexed c (Inner k (form_of i (part_at table i)) c.value))))
          (indexed_made table Made i k (read (indexed c (Inner k (form_of i (part_at table i)) c.value))))
          ≡ Some (frame_bytes c)
      indexed_again k i c s =
          let x = Inner k (form_of i (part_at table i)) c.value in
          let ms = member (codes "tab") (number (unsigned c.word)) (member (codes "attributes") x (pad_member c)) in
          let distinct : Distinct ms = (not_pad_member (codes "tab") c refl, (not_pad_member (codes "attributes") c refl, pad_distinct c)) in
          indexed_found table Made k i c (read x) (read (object ms)) s
          (r.found ms (codes "raw") distinct ∙ ap (option_map read) (not_pad_member (codes "raw") c refl))
          (r.found ms (codes "tab") distinct ∙ ap Some (r.of_number _)) (r.found ms (codes "attributes") distinct)
          (r.found ms (codes "pad") distinct ∙ ap (option_map read) (get_pad_member c) ∙ pad_seen_read c)
          (again k (form_of i (part_at table i)) c.value s.value)

      choice_again : (k : List ℕ) (i : ℕ) (b : List ℕ) (o : Option Choice) → IsBytes b → chosen (choices_of (part_at table i)) b ≡ o
          → Again_in k (form.Choice i) (by_choice (Inner k) b o) b
      choice_again k i b None h is =
          let same = r.of_one (codes "Other") _ ∙ ap (one (codes "Other")) (r.of_text _) in
          subst (λ d. Holds table Made k (form.Choice i) d b) (sym same) (hex_made-hex b h)
      choice_again k i b (Some c) h is =
          let cs = choices_of (part_at table i) in
          let following = drop (length c.prefix) b in
          let x = read (Inner k c.form following) in
          subst (λ d. Holds table Made k (form.Choice i) d b) (sym (r.of_one c.name _))
          (choice_found table Made k cs b c x (one c.name x) h (guarded cs (λ (q : Choice). q.name) is_choice (follows b) (first (follows b) cs) c is)
          (here c.name x no_members) (λ q e. passes q c.name x no_members e) (again k c.form following (IsBytes-drop (length c.prefix) b h)))

      record_again : (k : List ℕ) (i : ℕ) (b : List ℕ) → IsBytes b → names_distinct (fields_of (part_at table i)) ≡ true
          → Again_in k (form.Record i) (object (members table (Inner k) (fields_of (part_at table i)) b)) b
      record_again k i b h e =
          let fs = fields_of (part_at table i) in
          let ms = members table (Inner k) fs b in
          let all = and_parts (is_free (codes "raw") fs && is_free (codes "rest") fs) (are_distinct fs) e in
          let names = and_parts (is_free (codes "raw") fs) (is_free (codes "rest") fs) all.0 in
          let distinct = members_distinct (Inner k) fs b all.1 names.1 in
          ap (λ o. or_raw (option_and_then hex_made o) (in_form table Made k (form.Record i) (read (object ms))))
          (r.found ms (codes "raw") distinct ∙ ap (option_map read) (absent table (Inner k) (codes "raw") fs b names.0 refl))
          ∙ fields_again table (Inner k) (Made k) read (again k) r.of_text fs b (read (object ms)) h
          (λ name later. r.found ms name distinct, r.found ms (codes "rest") distinct) all.1 names.1
        where
          members_distinct : (One : Form → List ℕ → Data) (fs : List Field) (b : List ℕ) → are_distinct fs ≡ true → is_free (codes "rest") fs ≡ true
              → Distinct (members table One fs b)
          members_distinct One [] [] a free = tt
          members_distinct One [] (x ∷ b) a free = (refl, tt)
          members_distinct One (f ∷ fs) b a free =
              let w = field_width table f in
              let later = after_field w b in
              let own = and_parts (is_free f.name fs) (are_distinct fs) a in
              let unlike = and_parts (not (bytes_eq (codes "rest") f.name)) (is_free (codes "rest") fs) free in
              let more = members_distinct One fs later own.1 unlike.1 in
              cond_both (is_pad f.form && is_blank w (field_of w b)) (members table One fs later) _ Distinct
              (λ e. more) (λ e. (absent table One f.name fs later own.0 (swapped (codes "rest") f.name (not-false _ unlike.0)), more))

      elements_again : (k : List ℕ) (f : Form) (b : List ℕ) → IsBytes b
          → each_made (Made k f) (each_item read (elements_of (Inner k) f (fixed table f) b)) ≡ Some b
      elements_again k f b h =
          ap (each_made (Made k f)) (elements_of_read (Inner k) f (fixed table f) b)
          ∙ elements_of-again table (λ g x. read (Inner k g x)) (Made k f) f (again k f) (fixed table f) b h

      level_again : (k : List ℕ) (f : Form) (b : List ℕ) → IsBytes b → Again_in k f (shown table Inner k f b) b
      level_again k (form.Record i) b h =
          let fs = fields_of (part_at table i) in
          cond_both (names_distinct fs && are_enough table (length b) fs) (object (members table (Inner k) fs b)) (raw b)
          (λ d. Again_in k (form.Record i) d b) (λ e. record_again k i b h (and_parts (names_distinct fs) (are_enough table (length b) fs) e).0)
          (λ e. subst (λ d. Holds table Made k (form.Record i) d b) (sym (raw_read b)) (raw_again table Made k (form.Record i) b h))
      level_again k (form.Array i) b h = in_array k (form.Array i) _ b (elements_again k (form_of i (part_at table i)) b h)
      level_again k (form.Times n i) b h = in_array k (form.Times n i) _ b (elements_again k (form_of i (part_at table i)) b h)
      level_again k (form.List i) b h =
          let layer = layer_of (part_at table i) in
          in_array k (form.List i) _ b
          (list_again (layered_made table Made i) (λ j c. layered layer (attribute Inner (rows_under table i j) false j c)) false (λ j c s. refl)
          (λ j c s.
          let rows = rows_under table i j in
          ap (λ x. or_raw (raw_of x) (layered_made table Made i j x)) (layered_read layer (attribute Inner rows false j c))
          ∙ in_layer Made rows false layer j c _ (attribute_again rows false j c s)) (length b) k b h)
      level_again k (form.InForce i) b h =
          in_array k (form.InForce i) _ b (kinded_again i true (length b) k b h (λ j c s. (attribute_again (rows_under table i j) true j c s).kind))
      level_again k (form.Own i) b h =
          let One : List ℕ → PaddedFrame → Data = λ j c. attribute Inner (rows_under table i j) true j c in
          let own = own_kind (length b) b in
          let ds = each_item read (frames One false (length b) own b) in
          in_array k (form.Own i) _ b
          (ap (λ j. each_under (kinded_made table Made i) false j ds)
          (ap own_kind_named (frames_read One false (length b) own b)
          ∙ own_again (λ j c. read (One j c)) (λ j c s. (attribute_again (rows_under table i j) true j c s).kind) (length b) own b h)
          ∙ kinded_again i false (length b) own b h (λ j c s. refl))
      level_again k (form.Indexed i) b h =
          in_array k (form.Indexed i) _ b
          (list_again (indexed_made table Made i) (λ j c. indexed c (Inner j (form_of i (part_at table i)) c.value)) false (λ j c s. refl)
          (λ j c s. indexed_again j i c s) (length b) k b h)
      level_again k (form.Choice i) b h = choice_again k i b (chosen (choices_of (part_at table i)) b) h refl
      level_again k f b h = subst (λ d. Holds table Made k f d b) (sym (plain_read table f b)) (plain_again table Made k f b h)

  made_again : (table : Table) (n : ℕ) (k : List ℕ) (f : Form) (b : List ℕ) → IsBytes b → make table n k f (read (show table n k f b)) ≡ Some b
  made_again table zero k f b h = ap raw_of (raw_read b) ∙ raw_of-raw b h
  made_again table (suc n) k f b h = level_again (show table n) (make table n) (λ j g x y. made_again table n j g x y) table k f b h

-- ---- the laws

pub shown_again : (table : Table) (n : ℕ) (k : List ℕ) (f : Form) (b : List ℕ) → IsBytes b → make table n k f (show table n k f b) ≡ Some b
shown_again table n k f b h = made_again (λ d. d) as_it_is table n k f b h

pub shown_read : (table : Table) (n : ℕ) (k : List ℕ) (f : Form) (b : List ℕ) → IsBytes b → make table n k f (ordered (show table n k f b)) ≡ Some b
shown_read table n k f b h = made_again ordered in_order table n k f b h

some_same : (a b : List ℕ) (o : Option (List ℕ)) → o ≡ Some a → o ≡ Some b → a ≡ b
some_same a b o ea eb = ap (λ x. unwrap_or x a) (sym ea ∙ eb)

pub shown_injective : (table : Table) (n : ℕ) (k : List ℕ) (f : Form) (a b : List ℕ) → IsBytes a → IsBytes b → show table n k f a ≡ show table n k f b → a ≡ b
shown_injective table n k f a b ha hb e =
    some_same a b (make table n k f (show table n k f b)) (ap (make table n k f) (sym e) ∙ shown_again table n k f a ha) (shown_again table n k f b hb)

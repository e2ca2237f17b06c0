-- The JSON of bytes is readable: it nests at most three levels deeper for each form within a form.
use Rattle.std.proofs.Common.{◌≡◌, ℕ, zero, suc, ◌^◌, ◌<◌, Bool, true, false, List, [], ◌∷◌, length, take, drop, Option, Some, None, arith, refl}
use Rattle.std.specs.Prelude.{◌==◌, ◌&&◌, not, nat_le, bytes_eq, unwrap_or, codes}
use Rattle.std.proofs.lemmas.Bool.{cond_both, and_parts}
use Rattle.std.proofs.lemmas.List.{length-take}
use Rattle.nla_frames.specs.Frame.{padding}
use Rattle.nla_frames.specs.Grammar.{length_at}
use Rattle.nla_frames.specs.Value.{IsBytes, ends_in_nul}
use Rattle.nla_frames.proofs.Bytes.{IsBytes-take, IsBytes-drop}
use Rattle.serde_json.specs.Data.{Data, boolean, number, unsigned, array, object, no_members, member}
use Rattle.forms_values.specs.declared.form.Form.{Form}
use Rattle.forms_values.specs.declared.form.Form.TheVariants as form
use Rattle.forms_attributes.specs.Attributes.{tail_shown, first_or_tail, frames, pad_member, beside, bare_member, indexed, layered, by_row, by_kind, attribute}
use Rattle.forms_values.specs.Choices.{chosen, by_choice}
use Rattle.forms_attributes.specs.Frames.{PaddedFrame, frame_at, after_first}
use Rattle.forms_attributes.specs.Kinds.{kind_in, own_kind}
use Rattle.forms_values.specs.Places.{part_at, fields_of, layer_of, choices_of, form_of, rows_under}
use Rattle.forms_values.specs.Raw.{hex}
use Rattle.forms_values.specs.Records.{is_pad, names_distinct, are_enough, are_distinct, is_free, is_blank, field_of, after_field}
use Rattle.forms_values.specs.Records.{members, elements, elements_of}
use Rattle.forms_attributes.specs.Rows.{type_of, counts, of_type, shown_row}
use Rattle.forms_values.specs.Search.{first}
use Rattle.forms_json.specs.Shown.{shown, show}
use Rattle.forms_values.specs.Tables.{Field, Row, Choice, Table}
use Rattle.forms_values.specs.Widths.{field_width, fixed}
use Rattle.forms_values.proofs.Leaves.{little_small}
use Rattle.forms_json.proofs.RecordsAgain.{IsBytes-field_of, IsBytes-after_field, absent, swapped, not-false}
use Rattle.forms_json.proofs.Found.{not_pad_member, plain}
use Rattle.forms_values.proofs.Search.{guarded}
use Rattle.forms_json.proofs.Ordered.{Distinct, pad_distinct, named_distinct, kind_distinct}
use Rattle.forms_text.proofs.Readable.{Readable, ItemsReadable, MembersReadable, deeper}
use Rattle.forms_text.proofs.ReadableValues.{raw_readable, tested, plain_readable}

-- ---- attributes: an object of at most four members

-- the word is a number of 64 bits, and the value is bytes
record Small (c : PaddedFrame) : Type 0 where
  word : c.word < 2 ^ 64
  value : IsBytes c.value

small : (b : List ℕ) → IsBytes b → Small (frame_at (length_at b) b)
small b h =
    let low = little_small (take 2 (drop 2 b)) (IsBytes-take 2 (drop 2 b) (IsBytes-drop 2 b h)) (omega (arith, length-take 2 (drop 2 b))) in
    record { word = omega (arith, low); value = IsBytes-drop 4 _ (IsBytes-take (length_at b) b h) }

pad_readable : (c : PaddedFrame) (n : ℕ) → MembersReadable (pad_member c) n
pad_readable c n =
    cond_both (is_blank (Some (padding (length c.value))) c.pad) no_members (member (codes "pad") (hex c.pad) no_members) (λ ms. MembersReadable ms n)
    (λ e. tt) (λ e. (tt, tt))

beside_readable : (word : ℕ) (c : PaddedFrame) (n : ℕ) → Small c → MembersReadable (beside word c) n
beside_readable word c n s =
    cond_both (c.word == word) (pad_member c) (member (codes "word") (number (unsigned c.word)) (pad_member c)) (λ ms. MembersReadable ms n)
    (λ e. pad_readable c n) (λ e. (s.word, pad_readable c n))

kind_readable : (c : PaddedFrame) (n : ℕ) → Small c → MembersReadable (bare_member c.value (beside 1 c)) n
kind_readable c n s =
    cond_both (ends_in_nul c.value) (beside 1 c) (member (codes "bare") (boolean true) (beside 1 c)) (λ ms. MembersReadable ms n)
    (λ e. beside_readable 1 c n s) (λ e. (tt, beside_readable 1 c n s))

layered_readable : (layer : List ℕ) (d : Data) (n : ℕ) → Readable d n → Readable (layered layer d) (suc n)
layered_readable [] d n h = deeper d n h
layered_readable (x ∷ layer) d n h = ((refl, tt), (h, tt))

tail_readable : (b : List ℕ) (n : ℕ) → ItemsReadable (tail_shown b) (suc n)
tail_readable [] n = tt
tail_readable (x ∷ b) n = (raw_readable (x ∷ b) n, tt)

frames_readable : (One : List ℕ → PaddedFrame → Data) (has : Bool) (m : ℕ) → ((k : List ℕ) (c : PaddedFrame) → Small c → Readable (One k c) (suc m))
    → (n : ℕ) (k b : List ℕ) → IsBytes b → ItemsReadable (frames One has n k b) (suc m)
frames_readable One has m ones zero k b h = tail_readable b m
frames_readable One has m ones (suc n) k b h =
    let c = frame_at (length_at b) b in
    let after = after_first b in
    cond_both (nat_le 4 (length_at b) && nat_le (length_at b) (length b)) (Some c) None
    (λ o. ItemsReadable (first_or_tail One has k b (λ j. frames One has n j after) o) (suc m))
    (λ e.
    let j = unwrap_or (kind_in has c) k in
    let later = IsBytes-drop (padding (length_at b)) (drop (length_at b) b) (IsBytes-drop (length_at b) b h) in
    (ones j c (small b h), frames_readable One has m ones n j after later))
    (λ e. tail_readable b m)

-- ---- records, elements, choices

fields_distinct : (table : Table) (Inner : Form → List ℕ → Data) (fs : List Field) (b : List ℕ) → names_distinct fs ≡ true → Distinct (members table Inner fs b)
fields_distinct table Inner fs b e =
    let all = and_parts (is_free (codes "raw") fs && is_free (codes "rest") fs) (are_distinct fs) e in
    go fs b all.1 (and_parts (is_free (codes "raw") fs) (is_free (codes "rest") fs) all.0).1
  where
    go : (fs : List Field) (b : List ℕ) → are_distinct fs ≡ true → is_free (codes "rest") fs ≡ true → Distinct (members table Inner fs b)
    go [] [] a free = tt
    go [] (x ∷ b) a free = (refl, tt)
    go (f ∷ fs) b a free =
        let w = field_width table f in
        let chunk = field_of w b in
        let later = after_field w b in
        let own = and_parts (is_free f.name fs) (are_distinct fs) a in
        let unlike = and_parts (not (bytes_eq (codes "rest") f.name)) (is_free (codes "rest") fs) free in
        let more = go fs later own.1 unlike.1 in
        cond_both (is_pad f.form && is_blank w chunk) (members table Inner fs later) (member f.name (Inner f.form chunk) (members table Inner fs later)) Distinct
        (λ t. more) (λ t. (absent table Inner f.name fs later own.0 (swapped (codes "rest") f.name (not-false _ unlike.0)), more))

module _ (table : Table) (Inner : Form → List ℕ → Data) (m : ℕ) (inner : (f : Form) (b : List ℕ) → IsBytes b → Readable (Inner f b) (suc m)) where
  members_readable : (fs : List Field) (b : List ℕ) → IsBytes b → MembersReadable (members table Inner fs b) (suc m)
  members_readable [] [] h = tt
  members_readable [] (x ∷ b) h = (tt, tt)
  members_readable (f ∷ fs) b h =
      let w = field_width table f in
      let chunk = field_of w b in
      let after = members table Inner fs (after_field w b) in
      let more = members_readable fs (after_field w b) (IsBytes-after_field w b h) in
      cond_both (is_pad f.form && is_blank w chunk) after (member f.name (Inner f.form chunk) after) (λ ms. MembersReadable ms (suc m)) (λ e. more)
      (λ e. (inner f.form chunk (IsBytes-field_of w b h), more))

module _ (Inner : Form → List ℕ → Data) (m : ℕ) (inner : (f : Form) (b : List ℕ) → IsBytes b → Readable (Inner f b) (suc m)) where
  elements_readable : (n : ℕ) (f : Form) (w : ℕ) (b : List ℕ) → IsBytes b → ItemsReadable (elements Inner n f w b) (suc m)
  elements_readable n f w [] h = tt
  elements_readable zero f w (x ∷ b) h = (inner f (x ∷ b) h, tt)
  elements_readable (suc n) f w (x ∷ b) h =
      (inner f (take w (x ∷ b)) (IsBytes-take w (x ∷ b) h), elements_readable n f w (drop w (x ∷ b)) (IsBytes-drop w (x ∷ b) h))

  elements_of_readable : (f : Form) (w : Option ℕ) (b : List ℕ) → IsBytes b → ItemsReadable (elements_of Inner f w b) (suc m)
  elements_of_readable f None b h = (inner f b h, tt)
  elements_of_readable f (Some w) b h = elements_readable (length b) f w b h

  choice_readable : (b : List ℕ) (o : Option Choice) → IsBytes b → Readable (by_choice Inner b o) (suc (suc m))
  choice_readable b None h = ((refl, tt), (tt, tt))
  choice_readable b (Some c) h = ((refl, tt), (inner c.form (drop (length c.prefix) b) (IsBytes-drop (length c.prefix) b h), tt))

-- ---- attributes of a list

module _ (Inner : List ℕ → Form → List ℕ → Data) (m : ℕ) (inner : (k : List ℕ) (f : Form) (b : List ℕ) → IsBytes b → Readable (Inner k f b) (suc m))
    (rows : List Row) (has : Bool) where
  row_readable : (k : List ℕ) (c : PaddedFrame) → Small c → (o : Option Row) → shown_row rows c.word ≡ o → Readable (by_row Inner rows has k c o) (suc (suc m))
  row_readable k c s None is =
      ((not_pad_member (codes "Other") c refl, pad_distinct c), (((refl, (refl, tt)), (s.word, (tt, tt))), pad_readable c (suc m)))
  row_readable k c s (Some r) is =
      let g = guarded rows (λ (q : Row). q.name) counts (λ q. type_of q.word == type_of c.word) (first (of_type c.word) rows) r is in
      let own = plain r.name g.passed in
      (named_distinct r.name (Inner k r.form c.value) r.word c own.word own.pad, (inner k r.form c.value s.value, beside_readable r.word c (suc m) s))

  attribute_readable : (k : List ℕ) (c : PaddedFrame) → Small c → Readable (attribute Inner rows has k c) (suc (suc m))
  attribute_readable k c s = go (kind_in has c)
    where
      go : (o : Option (List ℕ)) → Readable (by_kind Inner rows has k c o) (suc (suc m))
      go None = row_readable k c s (shown_row rows c.word) refl
      go (Some t) = (kind_distinct t c, (tt, kind_readable c (suc m) s))

-- ---- any form

module _ (table : Table) (Inner : List ℕ → Form → List ℕ → Data) (m : ℕ)
    (inner : (k : List ℕ) (f : Form) (b : List ℕ) → IsBytes b → Readable (Inner k f b) (suc m)) where
  array_readable : (k : List ℕ) (f : Form) (b : List ℕ) → IsBytes b → Readable (array (elements_of (Inner k) f (fixed table f) b)) (suc (suc m))
  array_readable k f b h = elements_of_readable (Inner k) m (inner k) f (fixed table f) b h

  twice : (d : Data) → Readable d (suc (suc m)) → Readable d (suc (suc (suc (suc m))))
  twice d h = deeper d (suc (suc (suc m))) (deeper d (suc (suc m)) h)

  kinded_readable : (has : Bool) (i n : ℕ) (k b : List ℕ) → IsBytes b
      → Readable (array (frames (λ j c. attribute Inner (rows_under table i j) true j c) has n k b)) (suc (suc (suc (suc m))))
  kinded_readable has i n k b h =
      frames_readable (λ j c. attribute Inner (rows_under table i j) true j c) has (suc (suc m))
      (λ j c s.
      deeper (attribute Inner (rows_under table i j) true j c) (suc (suc m)) (attribute_readable Inner m inner (rows_under table i j) true j c s)) n k b h

  indexed_readable : (i : ℕ) (k : List ℕ) (c : PaddedFrame) → Small c → Readable (indexed c (Inner k (form_of i (part_at table i)) c.value)) (suc (suc m))
  indexed_readable i k c s = (
    (not_pad_member (codes "tab") c refl, (not_pad_member (codes "attributes") c refl, pad_distinct c)),
    (s.word, (inner k (form_of i (part_at table i)) c.value s.value, pad_readable c (suc m))),
  )

  level_readable : (k : List ℕ) (f : Form) (b : List ℕ) → IsBytes b → Readable (shown table Inner k f b) (suc (suc (suc (suc m))))
  level_readable k (form.Record i) b h =
      let fs = fields_of (part_at table i) in
      let ms = members table (Inner k) fs b in
      tested (names_distinct fs && are_enough table (length b) fs) _ b (suc (suc (suc m)))
      (λ e. twice (object ms) (fields_distinct table (Inner k) fs b (and_parts (names_distinct fs) _ e).0, members_readable table (Inner k) m (inner k) fs b h))
  level_readable k (form.Array i) b h =
      let f = form_of i (part_at table i) in twice (array (elements_of (Inner k) f (fixed table f) b)) (array_readable k f b h)
  level_readable k (form.Times n i) b h =
      let f = form_of i (part_at table i) in twice (array (elements_of (Inner k) f (fixed table f) b)) (array_readable k f b h)
  level_readable k (form.List i) b h =
      let layer = layer_of (part_at table i) in
      frames_readable (λ j c. layered layer (attribute Inner (rows_under table i j) false j c)) false (suc (suc m))
      (λ j c s.
      layered_readable layer (attribute Inner (rows_under table i j) false j c) (suc (suc m))
      (attribute_readable Inner m inner (rows_under table i j) false j c s)) (length b) k b h
  level_readable k (form.InForce i) b h = kinded_readable true i (length b) k b h
  level_readable k (form.Own i) b h = kinded_readable false i (length b) (own_kind (length b) b) b h
  level_readable k (form.Indexed i) b h =
      let One : List ℕ → PaddedFrame → Data = λ j c. indexed c (Inner j (form_of i (part_at table i)) c.value) in
      frames_readable One false (suc (suc m)) (λ j c s. deeper (One j c) (suc (suc m)) (indexed_readable i j c s)) (length b) k b h
  level_readable k (form.Choice i) b h =
      let o = chosen (choices_of (part_at table i)) b in twice (by_choice (Inner k) b o) (choice_readable (Inner k) m (inner k) b o h)
  level_readable k f b h = plain_readable table f b (suc (suc (suc m))) h

-- how deep JSON nests, if forms nest this deep
abbrev pub levels : ℕ → ℕ
levels zero = 0
levels (suc n) = suc (suc (suc (levels n)))

pub shown_readable : (table : Table) (n : ℕ) (k : List ℕ) (f : Form) (b : List ℕ) → IsBytes b → Readable (show table n k f b) (suc (levels n))
shown_readable table zero k f b h = raw_readable b 0
shown_readable table (suc n) k f b h = level_readable table (show table n) (levels n) (shown_readable table n) k f b h

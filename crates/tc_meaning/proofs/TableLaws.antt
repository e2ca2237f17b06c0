-- The laws of every class and every table, by induction over the tables.
use Rattle.std.proofs.Common.{◌≡◌, ◌⊎◌, ℕ, zero, suc, ◌+◌, ◌%◌, ◌^◌, ◌<◌, Bool, true, not, ◌&&◌, List, [], ◌∷◌, Some, None, Ok, cond, eqb, leb, refl, sym, ap}
use Rattle.std.proofs.Common.{subst, ◌∙◌, arith, inl, inr}
use Rattle.std.specs.Prelude.{MatchBool}
use Rattle.std.specs.Str.{is_utf8}
use Rattle.std.proofs.lemmas.Bool.{and_parts, ltb-true, leb-true, eqb-true, eq-eqb, ne_eqb, not-true, cases_eq}
use Rattle.nla_frames.specs.Fault.{seen}
use Rattle.nla_frames.specs.Value as plain_values
use Rattle.nla_frames.specs.Value.{IsBytes, strip}
use Rattle.nla_frames.specs.Frame.{Frame, IsWireFrame, type_of}
use Rattle.nla_frames.specs.Reading.{keep}
use Rattle.nla_frames.specs.CanonList.{IsCanonAt, IsCanonList}
use Rattle.nla_frames.specs.Codec.{Codec, Laws, IsWireValue, IsWireBytes, list_codec}
use Rattle.nla_frames.proofs.ListLaws.{list_laws}
use Rattle.tc_canon.specs.Kind.{is_kind_frame}
use Rattle.tc_canon.specs.Descriptor.{Class, le, be, masked, array, raw, text, warning, presence, truth, fields, selector, pair, xstats, list_of, own_list}
use Rattle.tc_canon.specs.Descriptor.{Table, table, every, by_kind, Rows, others, types, unread, options, Kinds, unknown, kind, is_within, is_known}
use Rattle.tc_canon.specs.Canonical.{CanonClass, CanonTable, CanonRows, CanonKinds, IsCanonOwn}
use Rattle.tc_meaning.specs.Tree.{is_bytes, Attribute, known, kept, other, of_kind, attributes_of, list_of_attributes, number_of}
use Rattle.tc_meaning.specs.Content.{Shape, via, a_number, some_bytes, a_flag, a_record, a_selector, le_codec, be_codec, masked_codec, array_codec, raw_codec}
use Rattle.tc_meaning.specs.Content.{text_codec, warning_codec, presence_codec, truth_codec, record_codec, pair_codec, selector_codec, xstats_codec}
use Rattle.tc_meaning.specs.Own.{kind_of_frame, kind_of_attribute, own_codec}
use Rattle.tc_meaning.specs.Meaning.{short, a_list, choose, row_frames, unread_frames, options_frames, by_type, class_codec, table_codec, rows_codec}
use Rattle.tc_meaning.specs.Meaning.{kinds_codec}
use Rattle.tc_meaning.specs.Sound.{is_type, are_flags, is_free, starts_with_kind, is_sound_class, is_sound_table, is_sound_rows, is_sound_kinds}
use Rattle.tc_meaning.proofs.Outcomes.{seen-ok}
use Rattle.tc_meaning.proofs.Shapes.{short_laws, via_laws}
use Rattle.tc_meaning.proofs.Numbers.{le_laws, be_laws, masked_laws, array_laws, raw_laws, presence_laws, truth_laws}
use Rattle.tc_meaning.proofs.Texts.{text-ok, text_laws, warning_laws}
use Rattle.tc_meaning.proofs.Fields.{fields_laws}
use Rattle.tc_meaning.proofs.Selectors.{pair_laws, selector_laws}
use Rattle.tc_meaning.proofs.Xstats.{xstats_laws}
use Rattle.tc_meaning.proofs.Rows.{RowLaws, raw_rows, row_rows, unread_rows, options_rows, choose_rows, choose_same, by_type_laws, every_laws}
use Rattle.tc_meaning.proofs.KindLaws.{KindLaws, unknown_kind, kind_laws}
use Rattle.tc_meaning.proofs.OwnLaws.{ReadsKinds, own_laws}

-- ---- contents

-- a list of attributes, and back
list-again : (xs : List Attribute) → list_of_attributes (attributes_of xs) ≡ xs
list-again [] = refl
list-again (x ∷ xs) = ap (λ (ys : List Attribute). x ∷ ys) (list-again xs)

-- the laws of a plain value's contents
plain_laws : {X : Type 0} (shape : Shape X) (c : Codec (List ℕ) X) (Canon : List ℕ → List ℕ → Type 0) → ((x : X) → shape.out (shape.into x) ≡ x)
    → Laws IsBytes c Canon
    → Laws IsWireValue (short (via shape c)) Canon
plain_laws shape c Canon again laws = short_laws IsBytes (via shape c) Canon (λ v w. w.are_bytes) (λ v w. w) (via_laws shape IsBytes c Canon again laws)

-- the length of a frame's value is a `usize`
counted : (v : List ℕ) → IsWireValue v → IsWireBytes v
counted v w = record { are_bytes = w.are_bytes; long = omega (arith, w.short) }

-- the laws of a list's contents
items_laws : (c : Codec (List ℕ) (List Attribute)) (Canon : List ℕ → List ℕ → Type 0) → Laws IsWireBytes c Canon → Laws IsWireValue (short (via a_list c)) Canon
items_laws c Canon laws = short_laws IsWireBytes (via a_list c) Canon counted (λ v w. w.are_bytes) (via_laws a_list IsWireBytes c Canon list-again laws)

-- the laws of a plain list's contents
list_items_laws : (c : Codec Frame Attribute) (Canon : IsCanonAt) → Laws IsWireFrame c Canon
    → Laws IsWireValue (short (via a_list (list_codec keep keep c))) (λ k v. IsCanonList Canon keep k v)
list_items_laws c Canon laws = items_laws (list_codec keep keep c) (λ k v. IsCanonList Canon keep k v) (list_laws c Canon laws keep keep (λ k f x w e. refl))

-- ---- rows

-- an unknown type is canonical with any value
canon-free : (n : ℕ) (rows : Rows) → is_free n rows ≡ true → (k : List ℕ) (f : Frame) → CanonRows rows n k f
canon-free n others free k f = tt
canon-free n (types first last flags class rows) free k f =
    let p = and_parts (not (is_within first last n)) (is_free n rows) free in
    rw (not-true (is_within first last n) p.0) (canon-free n rows p.1 k f)
canon-free n (unread m class rows) free k f = canon-free n rows free k f
canon-free n (options m kinds rows) free k f =
    let p = and_parts (not (eqb n m)) (is_free n rows) free in
    rw (not-true (eqb n m) p.0) (canon-free n rows p.1 k f)

-- the word of a row
pub record IsWord (flags n : ℕ) : Type 0 where
  pub small : flags + n < 2 ^ 16
  pub under : type_of (flags + n) ≡ n

pub row_word : (first last flags n : ℕ) → is_type last ≡ true → are_flags flags ≡ true → is_within first last n ≡ true → IsWord flags n
row_word first last flags n l fl within =
    let below = ltb-true last 0x4000 l in
    let p = and_parts (eqb (flags % 0x4000) 0) _ fl in
    let high = eqb-true (flags % 0x4000) 0 p.0 in
    let small = ltb-true flags 0x10000 p.1 in
    let inside = leb-true n last (and_parts (leb first n) (leb n last) within).1 in
    record { small = omega arith; under = omega arith }

-- a type as a word
pub type_word : (n : ℕ) → is_type n ≡ true → (n < 2 ^ 16) × (type_of n ≡ n)
type_word n e = let below = ltb-true n 0x4000 e in (omega arith, omega arith)

-- ---- the kind that attributes set

pub not_kind : (x : Attribute) → (number_of x ≡ 1 → ⊥) → kind_of_attribute x ≡ None
not_kind (known zero content) far = refl
not_kind (known (suc zero) content) far = absurd (far refl)
not_kind (known (suc (suc n)) content) far = refl
not_kind (kept n word value) far = refl
not_kind (other word value) far = refl
not_kind (of_kind name x) far = refl

-- what a text of type 1 is read as
read-kind : (n word : ℕ) (k : List ℕ) (f : Frame) (x : Attribute) → n ≡ 1 → (row_frames word n (class_codec text)).read k f ≡ Ok x
    → (is_utf8 (strip f.value) ≡ true) × (kind_of_attribute x ≡ Some (strip f.value))
read-kind n word k f x one e =
    let r = seen-ok (known n) (seen is_bytes (plain_values.text f.value)) x e in
    let q = seen-ok is_bytes (plain_values.text f.value) r.0 r.1 in
    let t = text-ok f.value q.0 q.1 in
    let is : known 1 (is_bytes (strip f.value)) ≡ x =
    ap (λ (i : ℕ). known i (is_bytes (strip f.value))) (sym one) ∙ ap (λ (u : List ℕ). known n (is_bytes u)) t.1 ∙ ap (known n) q.2 ∙ r.2 in
    (t.0, ap kind_of_attribute (sym is))

-- rows that begin with the kind read the kinds of their frames
pub rows_read_kinds : (rows : Rows) → starts_with_kind rows ≡ true → ((n : ℕ) → RowLaws n (rows_codec rows n) (CanonRows rows n))
    → ReadsKinds (by_type (rows_codec rows))
rows_read_kinds (types first last flags text rows) starts laws = record { agree = agree; has_text = has_text }
  where
    is_row : (n : ℕ) (k : List ℕ) (f : Frame) (x : Attribute) → n ≡ 1
        → (choose (is_within first last n) (row_frames (flags + n) n (class_codec text)) (rows_codec rows n)).read k f ≡ Ok x
        → (is_utf8 (strip f.value) ≡ true) × (kind_of_attribute x ≡ Some (strip f.value))
    is_row n k f x one e =
        let within : is_within first last n ≡ true = ap (is_within first last) one ∙ starts in
        read-kind n (flags + n) k f x one
        (sym (ap (λ (b : Bool). (choose b (row_frames (flags + n) n (class_codec text)) (rows_codec rows n)).read k f) within) ∙ e)

    agree : (k : List ℕ) (f : Frame) (x : Attribute) → (by_type (rows_codec (types first last flags text rows))).read k f ≡ Ok x
        → kind_of_frame f ≡ kind_of_attribute x
    agree k f x e = go (cases_eq (type_of f.word) 1)
      where
        go : (type_of f.word ≡ 1) ⊎ (type_of f.word ≡ 1 → ⊥) → cond (eqb (type_of f.word) 1) (Some (strip f.value)) None ≡ kind_of_attribute x
        go (inl one) = rw (eq-eqb (type_of f.word) 1 one) (sym (is_row (type_of f.word) k f x one e).1)
        go (inr far) = rw (ne_eqb (type_of f.word) 1 far) (sym (not_kind x (λ at. far (sym ((laws (type_of f.word)).numbered k f x refl e) ∙ at))))

    has_text : (k : List ℕ) (f : Frame) (x : Attribute) → (by_type (rows_codec (types first last flags text rows))).read k f ≡ Ok x → is_kind_frame f ≡ true
        → is_utf8 (strip f.value) ≡ true
    has_text k f x e tells = (is_row (type_of f.word) k f x (eqb-true (type_of f.word) 1 tells) e).0
rows_read_kinds _ starts laws = absurd cc

-- ---- one row before others

types_rows : (first last flags : ℕ) (class : Class) (rows : Rows) (n : ℕ) → is_type last ≡ true → are_flags flags ≡ true
    → Laws IsWireValue (short (class_codec class)) (CanonClass class) → RowLaws n (rows_codec rows n) (CanonRows rows n)
    → RowLaws n (rows_codec (types first last flags class rows) n) (CanonRows (types first last flags class rows) n)
types_rows first last flags class rows n l fl laws rest =
    choose_rows n (is_within first last n) (row_frames (flags + n) n (class_codec class)) (rows_codec rows n)
    (λ k f. (f.word ≡ flags + n) × CanonClass class k f.value) (CanonRows rows n)
    (λ within. let word = row_word first last flags n l fl within in row_rows (flags + n) n (class_codec class) (CanonClass class) laws word.small word.under)
    (λ outside. rest)

unread_then : (m : ℕ) (class : Class) (rows : Rows) (n : ℕ) → is_type m ≡ true → is_free m rows ≡ true
    → Laws IsWireValue (short (class_codec class)) (CanonClass class) → RowLaws n (rows_codec rows n) (CanonRows rows n)
    → RowLaws n (rows_codec (unread m class rows) n) (CanonRows (unread m class rows) n)
unread_then m class rows n ty free laws rest =
    choose_same n (eqb n m) (unread_frames m (class_codec class)) (rows_codec rows n) (CanonRows rows n)
    (λ same. subst (λ (i : ℕ). RowLaws i (unread_frames m (class_codec class)) (CanonRows rows i)) (sym (eqb-true n m same))
    (let word = type_word m ty in unread_rows m (class_codec class) (CanonClass class) (CanonRows rows m) laws word.0 word.1 (canon-free m rows free)))
    (λ outside. rest)

options_then : (m : ℕ) (kinds : Kinds) (rows : Rows) (n : ℕ) → is_type m ≡ true
    → Laws IsWireFrame (kinds_codec kinds) (CanonKinds kinds) → RowLaws n (rows_codec rows n) (CanonRows rows n)
    → RowLaws n (rows_codec (options m kinds rows) n) (CanonRows (options m kinds rows) n)
options_then m kinds rows n ty laws rest =
    choose_rows n (eqb n m) (options_frames m kinds (via a_list (list_codec keep keep (kinds_codec kinds)))) (rows_codec rows n)
    (λ k f. MatchBool (is_known kinds k) ((f.word ≡ n) × IsCanonList (CanonKinds kinds) keep k f.value) (Unit {0})) (CanonRows rows n)
    (λ same. subst (λ (i : ℕ). RowLaws i (options_frames m kinds (via a_list (list_codec keep keep (kinds_codec kinds))))
    (λ k f. MatchBool (is_known kinds k) ((f.word ≡ i) × IsCanonList (CanonKinds kinds) keep k f.value) (Unit {0}))) (sym (eqb-true n m same))
    (let word = type_word m ty in options_rows m kinds (via a_list (list_codec keep keep (kinds_codec kinds))) (λ k v. IsCanonList (CanonKinds kinds) keep k v)
    (list_items_laws (kinds_codec kinds) (CanonKinds kinds) laws) word.0 word.1))
    (λ outside. rest)

-- the contents of a list that sets its own kind
own_items : (rows : Rows) → starts_with_kind rows ≡ true → ((n : ℕ) → RowLaws n (rows_codec rows n) (CanonRows rows n))
    → Laws IsWireValue (short (class_codec (own_list rows))) (CanonClass (own_list rows))
own_items rows starts laws =
    items_laws (own_codec (by_type (rows_codec rows))) (λ k v. IsCanonOwn (λ own f. CanonRows rows (type_of f.word) own f) v)
    (own_laws (by_type (rows_codec rows)) (rows_read_kinds rows starts laws) (λ own f. CanonRows rows (type_of f.word) own f)
    (by_type_laws (rows_codec rows) (CanonRows rows) laws))

-- ---- everything

mutual
  -- the laws of a class
  pub class_laws : (c : Class) → is_sound_class c ≡ true → Laws IsWireValue (short (class_codec c)) (CanonClass c)
  class_laws (le n) sound = plain_laws a_number (le_codec n) (CanonClass (le n)) (λ x. refl) (le_laws n)
  class_laws (be n) sound = plain_laws a_number (be_codec n) (CanonClass (be n)) (λ x. refl) (be_laws n)
  class_laws (masked n bits) sound = plain_laws a_number (masked_codec n bits) (CanonClass (masked n bits)) (λ x. refl) (masked_laws n bits)
  class_laws (array n) sound = plain_laws some_bytes (array_codec n) (CanonClass (array n)) (λ x. refl) (array_laws n)
  class_laws raw sound = plain_laws some_bytes raw_codec (CanonClass raw) (λ x. refl) raw_laws
  class_laws text sound = plain_laws some_bytes text_codec (CanonClass text) (λ x. refl) text_laws
  class_laws warning sound = plain_laws some_bytes warning_codec (CanonClass warning) (λ x. refl) warning_laws
  class_laws presence sound = plain_laws a_flag presence_codec (CanonClass presence) (λ x. refl) presence_laws
  class_laws truth sound = plain_laws a_flag truth_codec (CanonClass truth) (λ x. refl) truth_laws
  class_laws (fields layout) sound = plain_laws a_record (record_codec layout) (CanonClass (fields layout)) (λ x. refl) (fields_laws layout)
  class_laws selector sound = plain_laws a_selector selector_codec (CanonClass selector) (λ x. refl) selector_laws
  class_laws pair sound = plain_laws a_record pair_codec (CanonClass pair) (λ x. refl) pair_laws
  class_laws xstats sound = short_laws IsBytes xstats_codec (CanonClass xstats) (λ v w. w.are_bytes) (λ v w. w) xstats_laws
  class_laws (list_of t) sound = list_items_laws (table_codec t) (CanonTable t) (table_laws t sound)
  class_laws (own_list rows) sound = let s = and_parts (starts_with_kind rows) (is_sound_rows rows) sound in own_items rows s.0 (λ n. rows_laws rows s.1 n)

  -- the laws of a table
  pub table_laws : (t : Table) → is_sound_table t ≡ true → Laws IsWireFrame (table_codec t) (CanonTable t)
  table_laws (table rows) sound = by_type_laws (rows_codec rows) (CanonRows rows) (λ n. rows_laws rows sound n)
  table_laws (every class) sound = every_laws (class_codec class) (CanonClass class) (class_laws class sound)
  table_laws (by_kind kinds) sound = (kinds_laws kinds sound).laws

  -- the laws of rows, at each type
  pub rows_laws : (rows : Rows) → is_sound_rows rows ≡ true → (n : ℕ) → RowLaws n (rows_codec rows n) (CanonRows rows n)
  rows_laws others sound n = raw_rows n (CanonRows others n) (λ k f. tt)
  rows_laws (types first last flags class rows) sound n =
      let a = and_parts (is_type last) (are_flags flags && (is_sound_class class && is_sound_rows rows)) sound in
      let b = and_parts (are_flags flags) (is_sound_class class && is_sound_rows rows) a.1 in
      let c = and_parts (is_sound_class class) (is_sound_rows rows) b.1 in
      types_rows first last flags class rows n a.0 b.0 (class_laws class c.0) (rows_laws rows c.1 n)
  rows_laws (unread m class rows) sound n =
      let a = and_parts (is_type m) (is_free m rows && (is_sound_class class && is_sound_rows rows)) sound in
      let b = and_parts (is_free m rows) (is_sound_class class && is_sound_rows rows) a.1 in
      let c = and_parts (is_sound_class class) (is_sound_rows rows) b.1 in
      unread_then m class rows n a.0 b.0 (class_laws class c.0) (rows_laws rows c.1 n)
  rows_laws (options m kinds rows) sound n =
      let a = and_parts (is_type m) (is_sound_kinds kinds && is_sound_rows rows) sound in
      let b = and_parts (is_sound_kinds kinds) (is_sound_rows rows) a.1 in
      options_then m kinds rows n a.0 (kinds_laws kinds b.0).laws (rows_laws rows b.1 n)

  -- the laws of kinds
  pub kinds_laws : (kinds : Kinds) → is_sound_kinds kinds ≡ true → KindLaws (kinds_codec kinds) (CanonKinds kinds)
  kinds_laws unknown sound = unknown_kind (CanonKinds unknown) (λ k f. tt)
  kinds_laws (kind name rows kinds) sound =
      let a = and_parts (is_sound_rows rows) (is_sound_kinds kinds) sound in
      kind_laws name (by_type (rows_codec rows)) (kinds_codec kinds) (λ k f. CanonRows rows (type_of f.word) k f) (CanonKinds kinds)
      (by_type_laws (rows_codec rows) (CanonRows rows) (λ n. rows_laws rows a.0 n)) (kinds_laws kinds a.1)

-- Every class and every table, written and read again: by induction over the tables.
use Rattle.std.proofs.Common.{◌≡◌, ℕ, zero, suc, ◌+◌, ◌≤◌, Bool, true, false, ◌&&◌, List, [], ◌∷◌, length, map, take, drop, Ok, Err, cond, eqb, ltb, refl, sym}
use Rattle.std.proofs.Common.{ap, subst, ◌∙◌, arith}
use Rattle.std.specs.List.{flat_map}
use Rattle.std.proofs.lemmas.Bool.{and_parts, eqb-true, ltb-false}
use Rattle.nla_frames.specs.Fault.{read_as, Outcome}
use Rattle.nla_frames.specs.Frame.{IsWireFrame, type_of}
use Rattle.nla_frames.specs.Reading.{keep}
use Rattle.nla_frames.specs.Value.{le_value, strip}
use Rattle.nla_frames.specs.Codec.{IsWireValue, list_codec}
use Rattle.nla_frames.specs.declared.error.DecodeError.TheVariants.{XstatsShort}
use Rattle.tc_canon.specs.Descriptor.{Field, little, big, named, octets, pad, Class, le, be, masked, array, raw, text, warning, presence, truth, fields}
use Rattle.tc_canon.specs.Descriptor.{selector, pair, xstats, list_of, own_list, Table, table, every, by_kind, Rows, others, types, unread, options, Kinds}
use Rattle.tc_canon.specs.Descriptor.{unknown, kind, is_within}
use Rattle.tc_canon.specs.Layouts.{width, fq_codel_qd_stats, fq_codel_cl_stats}
use Rattle.tc_canon.specs.Canonical.{CanonClass, CanonTable, CanonRows, CanonKinds}
use Rattle.tc_meaning.specs.Tree.{Scalar, Content, is_bytes, flag, record_of, statistics, unknown_statistics, Attribute, known, kept, other, of_kind}
use Rattle.tc_meaning.specs.Layout.{read_field, read_fields, SettledField, SettledFields, has_name}
use Rattle.tc_meaning.specs.Content.{via, a_flag, a_record, flags_pair, read_record, is_fq_codel, read_statistics, read_xstats, xstats_codec}
use Rattle.tc_meaning.specs.Own.{kind_of_attribute, own_codec}
use Rattle.tc_meaning.specs.Meaning.{short, a_list, row_frames, unread_frames, options_frames, by_type, class_codec, table_codec, rows_codec, kinds_codec}
use Rattle.tc_meaning.specs.Sound.{is_type, are_flags, is_free, starts_with_kind, is_sound_class, is_sound_table, is_sound_rows, is_sound_kinds}
use Rattle.tc_laws.specs.Loose.{parts_in_known, parts_in_kind, class_parts, table_parts, rows_parts, kinds_parts}
use Rattle.tc_laws.specs.Norm.{on, in_known, in_kind, trimmed_class, trimmed_table, trimmed_rows, trimmed_kinds}
use Rattle.tc_meaning.proofs.Outcomes.{seen-ok, kept-ok}
use Rattle.tc_meaning.proofs.Fields.{read_record-ok}
use Rattle.tc_meaning.proofs.Selectors.{settled-fields}
use Rattle.tc_meaning.proofs.Rows.{by_type_laws}
use Rattle.tc_meaning.proofs.TableLaws.{class_laws, table_laws, rows_laws, kinds_laws, rows_read_kinds, row_word, type_word}
use Rattle.tc_laws.proofs.RewriteValues.{RewriteLaws, still, next_masked, next_warning, next_items}
use Rattle.tc_laws.proofs.RewriteLists.{frame_size, next_list, next_own}
use Rattle.tc_laws.proofs.RewriteRows.{RowRewriteLaws, raw_next, row_next, unread_next, options_next, choose_next, by_type_next, every_next}
use Rattle.tc_laws.proofs.RewriteKinds.{unknown_next, kind_next}

-- ---- what is read of plain values is settled

pub settled-read : (fs : List Field) (v : List ℕ) → SettledFields fs (read_fields fs v)
settled-read [] v = tt
settled-read (f ∷ fs) v = (one f (take (width f) v), settled-read fs (drop (width f) v))
  where
    one : (f : Field) (v : List ℕ) → SettledField f (read_field f v)
    one (little n) v = tt
    one (big n) v = tt
    one (octets n) v = tt
    one (pad n) v = tt
    one (named n names) v = go (has_name names (le_value v)) refl
      where
        go : (b : Bool) → has_name names (le_value v) ≡ b → SettledField (named n names) (cond b (Scalar.plain (le_value v)) (Scalar.unnamed (le_value v)))
        go true e = tt
        go false e = e

pub settled-presence : (k v : List ℕ) (x : Content) → (class_codec presence).read k v ≡ Ok x → (class_codec presence).Settled k x
settled-presence k v x e = let q = seen-ok flag (read_as true) x e in ap a_flag.out (sym q.2) ∙ is q.0 q.1
  where
    is : (b : Bool) → ◌≡◌ {A = Outcome Bool} (read_as true) (read_as b) → b ≡ true
    is b e = cc

pub settled-record : (layout : List Field) (k v : List ℕ) (x : Content) → (class_codec (fields layout)).read k v ≡ Ok x → SettledFields layout (a_record.out x)
settled-record layout k v x e =
    let q = seen-ok record_of (read_record layout v) x e in
    let r = read_record-ok layout v q.0 q.1 in
    subst (λ (y : Content). SettledFields layout (a_record.out y)) q.2 (subst (SettledFields layout) r.1 (settled-read layout v))

settled-statistics : (n : ℕ) (k after value : List ℕ) (x : Content) → is_fq_codel k ≡ true → 4 ≤ length value → le_value (take 4 value) ≡ n
    → read_statistics n after value ≡ Ok x → xstats_codec.Settled k x
settled-statistics zero k after value x fq long number e =
    let q = seen-ok (statistics 0) (read_record fq_codel_qd_stats after) x e in
    subst (xstats_codec.Settled k) q.2 fq
settled-statistics (suc zero) k after value x fq long number e =
    let q = seen-ok (statistics 1) (read_record fq_codel_cl_stats after) x e in
    subst (xstats_codec.Settled k) q.2 fq
settled-statistics (suc (suc n)) k after value x fq long number e =
    let is : unknown_statistics value ≡ x = cc in
    subst (xstats_codec.Settled k) is (fq, long, omega arith)

pub settled-xstats : (k v : List ℕ) (x : Content) → read_xstats k v ≡ Ok x → xstats_codec.Settled k x
settled-xstats k v x e = go (is_fq_codel k) refl e
  where
    go : (b : Bool) → is_fq_codel k ≡ b
        → cond b (cond (ltb (length v) 4) (Err (XstatsShort (length v))) (read_statistics (le_value (take 4 v)) (drop 4 v) v)) (read_as (is_bytes v)) ≡ Ok x
        → xstats_codec.Settled k x
    go true fq h =
        let r = kept-ok (ltb (length v) 4) (XstatsShort (length v)) (read_statistics (le_value (take 4 v)) (drop 4 v) v) x h in
        settled-statistics (le_value (take 4 v)) k (drop 4 v) v x fq (ltb-false (length v) 4 r.0) refl r.1
    go false fq h =
        let is : is_bytes v ≡ x = cc in
        subst (xstats_codec.Settled k) is fq

-- ---- the kind that an attribute sets is the same afterwards

pub same_kind : (change : List ℕ → List ℕ) (rows : Rows) → starts_with_kind rows ≡ true → (x : Attribute)
    → kind_of_attribute (in_known (trimmed_rows change rows) x) ≡ kind_of_attribute x
same_kind change (types first last flags text rows) starts (known zero content) = refl
same_kind change (types first last flags text rows) starts (known (suc zero) content) = rw starts refl
same_kind change (types first last flags text rows) starts (known (suc (suc n)) content) = refl
same_kind change (types first last flags text rows) starts (kept n word value) = refl
same_kind change (types first last flags text rows) starts (other word value) = refl
same_kind change (types first last flags text rows) starts (of_kind name x) = refl
same_kind change _ starts x = absurd cc

-- ---- everything

mutual
  pub class_next : (c : Class) → is_sound_class c ≡ true → RewriteLaws IsWireValue length (short (class_codec c)) (trimmed_class strip c) (class_parts c)
  class_next (le n) sound = still (class_codec (le n)) (CanonClass (le n)) (class_laws (le n) sound) (λ k v x e. tt)
  class_next (be n) sound = still (class_codec (be n)) (CanonClass (be n)) (class_laws (be n) sound) (λ k v x e. tt)
  class_next (masked n bits) sound = next_masked n bits (class_laws (masked n bits) sound)
  class_next (array n) sound = still (class_codec (array n)) (CanonClass (array n)) (class_laws (array n) sound) (λ k v x e. tt)
  class_next raw sound = still (class_codec raw) (CanonClass raw) (class_laws raw sound) (λ k v x e. tt)
  class_next text sound = still (class_codec text) (CanonClass text) (class_laws text sound) (λ k v x e. tt)
  class_next warning sound = next_warning (class_laws warning sound)
  class_next presence sound = still (class_codec presence) (CanonClass presence) (class_laws presence sound) settled-presence
  class_next truth sound = still (class_codec truth) (CanonClass truth) (class_laws truth sound) (λ k v x e. tt)
  class_next (fields layout) sound = still (class_codec (fields layout)) (CanonClass (fields layout)) (class_laws (fields layout) sound) (settled-record layout)
  class_next selector sound = still (class_codec selector) (CanonClass selector) (class_laws selector sound) (λ k v x e. tt)
  class_next pair sound = still (class_codec pair) (CanonClass pair) (class_laws pair sound) (λ k v x e. settled-fields flags_pair (a_record.out x) refl)
  class_next xstats sound = still xstats_codec (CanonClass xstats) (class_laws xstats sound) settled-xstats
  class_next (list_of t) sound =
      next_items (list_codec keep keep (table_codec t)) (map (trimmed_table strip t)) (flat_map (table_parts t))
      (next_list (table_codec t) (CanonTable t) (table_laws t sound) (trimmed_table strip t) (table_parts t) (table_next t sound) keep keep (λ k f x w e. refl)
      (λ x. refl))
  class_next (own_list rows) sound =
      let s = and_parts (starts_with_kind rows) (is_sound_rows rows) sound in
      next_items (own_codec (by_type (rows_codec rows))) (map (in_known (trimmed_rows strip rows))) (flat_map (parts_in_known (rows_parts rows)))
      (next_own (by_type (rows_codec rows)) (λ k f. CanonRows rows (type_of f.word) k f)
      (by_type_laws (rows_codec rows) (CanonRows rows) (λ n. rows_laws rows s.1 n))
      (rows_read_kinds rows s.0 (λ n. rows_laws rows s.1 n)) (in_known (trimmed_rows strip rows)) (parts_in_known (rows_parts rows))
      (by_type_next (rows_codec rows) (CanonRows rows) (λ n. rows_laws rows s.1 n) (trimmed_rows strip rows) (rows_parts rows) (λ n. rows_next rows s.1 n))
      (same_kind strip rows s.0))

  pub table_next : (t : Table) → is_sound_table t ≡ true → RewriteLaws IsWireFrame frame_size (table_codec t) (trimmed_table strip t) (table_parts t)
  table_next (table rows) sound =
      by_type_next (rows_codec rows) (CanonRows rows) (λ n. rows_laws rows sound n) (trimmed_rows strip rows) (rows_parts rows) (λ n. rows_next rows sound n)
  table_next (every class) sound = every_next (class_codec class) (trimmed_class strip class) (class_parts class) (class_next class sound)
  table_next (by_kind kinds) sound = kinds_next kinds sound

  pub rows_next : (rows : Rows) → is_sound_rows rows ≡ true → (n : ℕ) → RowRewriteLaws n (rows_codec rows n) (trimmed_rows strip rows n) (rows_parts rows n)
  rows_next others sound n = raw_next n
  rows_next (types first last flags class rows) sound n =
      let a = and_parts (is_type last) (are_flags flags && (is_sound_class class && is_sound_rows rows)) sound in
      let b = and_parts (are_flags flags) (is_sound_class class && is_sound_rows rows) a.1 in
      let c = and_parts (is_sound_class class) (is_sound_rows rows) b.1 in
      choose_next n (is_within first last n) (row_frames (flags + n) n (class_codec class)) (rows_codec rows n) (trimmed_class strip class)
      (trimmed_rows strip rows n) (class_parts class) (rows_parts rows n)
      (λ within. row_next (flags + n) n (class_codec class) (trimmed_class strip class) (class_parts class) (class_next class c.0)
      (row_word first last flags n a.0 b.0 within).under)
      (rows_next rows c.1 n)
  rows_next (unread m class rows) sound n =
      let a = and_parts (is_type m) (is_free m rows && (is_sound_class class && is_sound_rows rows)) sound in
      let b = and_parts (is_free m rows) (is_sound_class class && is_sound_rows rows) a.1 in
      let c = and_parts (is_sound_class class) (is_sound_rows rows) b.1 in
      choose_next n (eqb n m) (unread_frames m (class_codec class)) (rows_codec rows n) (trimmed_class strip class) (trimmed_rows strip rows n)
      (class_parts class) (rows_parts rows n)
      (λ same. subst (λ (i : ℕ). RowRewriteLaws i (unread_frames m (class_codec class)) (trimmed_class strip class) (class_parts class))
      (sym (eqb-true n m same))
      (unread_next m (class_codec class) (trimmed_class strip class) (class_parts class) (class_next class c.0) (type_word m a.0).1))
      (rows_next rows c.1 n)
  rows_next (options m kinds rows) sound n =
      let a = and_parts (is_type m) (is_sound_kinds kinds && is_sound_rows rows) sound in
      let b = and_parts (is_sound_kinds kinds) (is_sound_rows rows) a.1 in
      let laws = (kinds_laws kinds b.0).laws in
      choose_next n (eqb n m) (options_frames m kinds (via a_list (list_codec keep keep (kinds_codec kinds)))) (rows_codec rows n)
      (on a_list (map (in_kind (trimmed_kinds strip kinds)))) (trimmed_rows strip rows n) (λ x. flat_map (parts_in_kind (kinds_parts kinds)) (a_list.out x))
      (rows_parts rows n)
      (λ same. subst (λ (i : ℕ). RowRewriteLaws i (options_frames m kinds (via a_list (list_codec keep keep (kinds_codec kinds))))
      (on a_list (map (in_kind (trimmed_kinds strip kinds)))) (λ x. flat_map (parts_in_kind (kinds_parts kinds)) (a_list.out x))) (sym (eqb-true n m same))
      (options_next m kinds (via a_list (list_codec keep keep (kinds_codec kinds))) (on a_list (map (in_kind (trimmed_kinds strip kinds))))
      (λ x. flat_map (parts_in_kind (kinds_parts kinds)) (a_list.out x))
      (next_items (list_codec keep keep (kinds_codec kinds)) (map (in_kind (trimmed_kinds strip kinds))) (flat_map (parts_in_kind (kinds_parts kinds)))
      (next_list (kinds_codec kinds) (CanonKinds kinds) laws (in_kind (trimmed_kinds strip kinds)) (parts_in_kind (kinds_parts kinds))
      (kinds_next kinds b.0) keep keep (λ k f x w e. refl) (λ x. refl)))
      (type_word m a.0).1))
      (rows_next rows b.1 n)

  pub kinds_next : (kinds : Kinds) → is_sound_kinds kinds ≡ true
      → RewriteLaws IsWireFrame frame_size (kinds_codec kinds) (in_kind (trimmed_kinds strip kinds)) (parts_in_kind (kinds_parts kinds))
  kinds_next unknown sound = unknown_next
  kinds_next (kind name rows kinds) sound =
      let a = and_parts (is_sound_rows rows) (is_sound_kinds kinds) sound in
      kind_next name (by_type (rows_codec rows)) (kinds_codec kinds) (CanonKinds kinds) (kinds_laws kinds a.1)
      (in_known (trimmed_rows strip rows)) (parts_in_known (rows_parts rows))
      (by_type_next (rows_codec rows) (CanonRows rows) (λ n. rows_laws rows a.0 n) (trimmed_rows strip rows) (rows_parts rows) (λ n. rows_next rows a.0 n))
      (trimmed_kinds strip kinds) (kinds_parts kinds) (kinds_next kinds a.1)

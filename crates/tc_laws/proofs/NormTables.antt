-- The norm of what was read is settled: by induction over the tables.
use Rattle.std.proofs.Common.{◌≡◌, ℕ, ◌+◌, ◌%◌, ◌≤◌, Bool, true, false, ◌&&◌, List, [], ◌∷◌, map, Ok, cond, eqb, refl, sym, ap, ap₂, subst, ◌∙◌, arith}
use Rattle.std.specs.List.{AllByRecursion}
use Rattle.std.specs.Str.{bytes_eq}
use Rattle.std.proofs.lemmas.Bool.{and_parts, eqb-true}
use Rattle.nla_frames.specs.Fault.{seen, read_as}
use Rattle.nla_frames.specs.Frame.{Frame, IsWireFrame, type_of}
use Rattle.nla_frames.specs.Place.{Sets, kind_then}
use Rattle.nla_frames.specs.Reading.{keep}
use Rattle.nla_frames.specs.Cutting.{cut}
use Rattle.nla_frames.specs.CanonList.{IsCanonAt}
use Rattle.nla_frames.specs.Codec.{Codec, IsWireValue, IsWireBytes, SettledEach, list_codec}
use Rattle.nla_frames.proofs.CutFrames.{IsWireFrame-cut}
use Rattle.nla_frames.proofs.ReadEach.{ReadInTurn}
use Rattle.nla_frames.proofs.ListLaws.{ReadInTurn-read_list, kind_then-same}
use Rattle.tc_canon.specs.Descriptor.{Class, le, be, masked, array, raw, text, warning, presence, truth, fields, selector, pair, xstats, list_of, own_list}
use Rattle.tc_canon.specs.Descriptor.{Table, table, every, by_kind, Rows, others, types, unread, options, Kinds, unknown, kind, is_within, is_known}
use Rattle.tc_canon.specs.Canonical.{CanonRows, CanonKinds}
use Rattle.tc_meaning.specs.Tree.{Content, Attribute, known, kept, other, of_kind, number_of}
use Rattle.tc_meaning.specs.Content.{via, a_number, some_bytes, a_record, flags_pair}
use Rattle.tc_meaning.specs.Own.{kind_of_attribute, kind_before, kinds_set, own_codec}
use Rattle.tc_meaning.specs.Meaning.{short, a_list, raw_frames, row_frames, unread_frames, options_frames, every_frame, kind_frames, choose, by_type}
use Rattle.tc_meaning.specs.Meaning.{class_codec, table_codec, rows_codec, kinds_codec}
use Rattle.tc_meaning.specs.Sound.{is_type, are_flags, is_free, starts_with_kind, is_sound_class, is_sound_table, is_sound_rows, is_sound_kinds}
use Rattle.tc_laws.specs.Loose.{without_nuls}
use Rattle.tc_laws.specs.Norm.{on, in_known, in_kind, trimmed_class, trimmed_table, trimmed_rows, trimmed_kinds}
use Rattle.tc_meaning.proofs.Outcomes.{seen-ok, ok-same}
use Rattle.tc_meaning.proofs.Trees.{attributes_again}
use Rattle.tc_meaning.proofs.Texts.{strip-none}
use Rattle.tc_meaning.proofs.Selectors.{settled-fields}
use Rattle.tc_meaning.proofs.Rows.{RowLaws}
use Rattle.tc_meaning.proofs.KindLaws.{KindLaws, bytes_eq-refl}
use Rattle.tc_meaning.proofs.OwnLaws.{ReadsKinds, read_own-ok, frames-set}
use Rattle.tc_meaning.proofs.TableLaws.{rows_laws, kinds_laws, rows_read_kinds}
use Rattle.tc_laws.proofs.TrailingNuls.{without-ends}
use Rattle.tc_laws.proofs.RewriteValues.{counted, mask-below}
use Rattle.tc_laws.proofs.RewriteRows.{of_row, wire_value}
use Rattle.tc_laws.proofs.RewriteTables.{settled-presence, settled-record, settled-xstats, same_kind}

-- what is read is settled after the change
abbrev pub NormSettled : {W X : Type 0} → (W → Type 0) → Codec W X → (X → X) → Type 0
NormSettled {W = W} {X = X} IsWire c all = (k : List ℕ) (w : W) (x : X) → IsWire w → c.read k w ≡ Ok x → c.Settled k (all x)

-- the same for an attribute of a row at the type n
abbrev NormRow : ℕ → Codec Frame Attribute → (Content → Content) → Type 0
NormRow n c all = (k : List ℕ) (f : Frame) (x : Attribute) → IsWireFrame f → type_of f.word ≡ n → c.read k f ≡ Ok x → c.Settled k (of_row all x)

-- ---- lists

norm_items : (c : Codec (List ℕ) (List Attribute)) (all : List Attribute → List Attribute) → NormSettled IsWireBytes c all
    → NormSettled IsWireValue (short (via a_list c)) (on a_list all)
norm_items c all law k v x w e =
    let q = seen-ok a_list.into (c.read k v) x e in
    let same : a_list.out x ≡ q.0 = ap a_list.out (sym q.2) ∙ attributes_again q.0 in
    let is_read : c.read k v ≡ Ok (a_list.out x) = q.1 ∙ ap (λ (y : List Attribute). read_as y) (sym same) in
    subst (c.Settled k) (sym (attributes_again (all (a_list.out x)))) (law k v (a_list.out x) (counted v w) is_read)

module _ {X : Type 0} (c : Codec Frame X) (all : X → X) (law : NormSettled IsWireFrame c all) (by_frame : Sets Frame) (by_value : Sets X)
    (agree : (kind : List ℕ) (f : Frame) (x : X) → IsWireFrame f → c.read kind f ≡ Ok x → by_frame f ≡ by_value x)
    (stays : (x : X) → by_value (all x) ≡ by_value x) where
  norm-each : (k : List ℕ) (fs : List Frame) (xs : List X) → AllByRecursion IsWireFrame fs → ReadInTurn c.read by_frame k fs xs
      → SettledEach c.Settled by_value k (map all xs)
  norm-each k [] [] wire turn = tt
  norm-each k [] (x ∷ xs) wire turn = elim turn [ ]
  norm-each k (f ∷ fs) [] wire turn = elim turn [ ]
  norm-each k (f ∷ fs) (x ∷ xs) wire turn =
      let then_same = kind_then-same by_frame by_value k f (all x) (agree k f x wire.0 turn.0 ∙ sym (stays x)) in (
        law k f x wire.0 turn.0,
        subst (λ (name : List ℕ). SettledEach c.Settled by_value name (map all xs)) then_same
            (norm-each (kind_then by_frame k f) fs xs wire.1 turn.1),
      )

  pub norm_list : NormSettled IsWireBytes (list_codec by_frame by_value c) (map all)
  norm_list k bytes xs w e = norm-each k (cut bytes).frames xs (IsWireFrame-cut bytes w.are_bytes) (ReadInTurn-read_list c.read by_frame k bytes xs e).1

module _ (c : Codec Frame Attribute) (reads_kinds : ReadsKinds c) (all : Attribute → Attribute) (law : NormSettled IsWireFrame c all)
    (stays : (x : Attribute) → kind_of_attribute (all x) ≡ kind_of_attribute x) where
  kinds-norm : (xs : List Attribute) → kinds_set kind_of_attribute (map all xs) ≡ kinds_set kind_of_attribute xs
  kinds-norm [] = refl
  kinds-norm (x ∷ xs) = ap₂ kind_before (stays x) (kinds-norm xs)

  each-all : (k : List ℕ) (xs : List Attribute) → SettledEach c.Settled keep k xs → AllByRecursion (c.Settled k) xs
  each-all k [] s = tt
  each-all k (x ∷ xs) s = (s.0, each-all k xs s.1)

  norm_own : NormSettled IsWireBytes (own_codec c) (map all)
  norm_own k bytes xs w e =
      let own = read_own-ok c bytes xs e in
      let same_kinds = sym (frames-set c reads_kinds own.own bytes xs own.is_read) ∙ own.one_kind in
      let each = norm_list c all law keep keep (λ kind f x v h. refl) (λ x. refl) own.own bytes xs w own.is_read in
      (own.own, kinds-norm xs ∙ same_kinds, each-all own.own (map all xs) each)

-- ---- rows

norm_raw : (n : ℕ) → NormRow n raw_frames (λ x. x)
norm_raw n k f x w at e = tt

norm_row : (word n : ℕ) (c : Codec (List ℕ) Content) (all : Content → Content) → NormSettled IsWireValue (short c) all → NormRow n (row_frames word n c) all
norm_row word n c all law k f x w at e =
    let q = seen-ok (known n) (c.read k f.value) x e in
    subst (λ (y : Attribute). (row_frames word n c).Settled k (of_row all y)) q.2 (law k f.value q.0 (wire_value f w) q.1)

norm_unread : (n m : ℕ) (c : Codec (List ℕ) Content) (all : Content → Content) → NormRow n (unread_frames m c) all
norm_unread n m c all k f x w at e = subst (λ (y : Attribute). (unread_frames m c).Settled k (of_row all y)) (ok-same (other f.word f.value) x e) tt

norm_options : (n : ℕ) (ks : Kinds) (c : Codec (List ℕ) Content) (all : Content → Content) → NormSettled IsWireValue (short c) all
    → NormRow n (options_frames n ks c) all
norm_options n ks c all law k f x w at e = go (is_known ks k) refl e
  where
    go : (b : Bool) → is_known ks k ≡ b → cond b (seen (known n) (c.read k f.value)) (read_as (kept n f.word f.value)) ≡ Ok x
        → (options_frames n ks c).Settled k (of_row all x)
    go true is e =
        let q = seen-ok (known n) (c.read k f.value) x e in
        subst (λ (y : Attribute). (options_frames n ks c).Settled k (of_row all y)) q.2 (is, law k f.value q.0 (wire_value f w) q.1)
    go false is e = subst (λ (y : Attribute). (options_frames n ks c).Settled k (of_row all y)) (ok-same (kept n f.word f.value) x e) (is, at)

norm_choose : (n : ℕ) (b : Bool) (chosen rest : Codec Frame Attribute) (all all' : Content → Content) → (b ≡ true → NormRow n chosen all) → NormRow n rest all'
    → NormRow n (choose b chosen rest) (λ x. cond b (all x) (all' x))
norm_choose n true chosen rest all all' this that = this refl
norm_choose n false chosen rest all all' this that = that

norm_by_type : (at : ℕ → Codec Frame Attribute) (Canon : ℕ → IsCanonAt) → ((n : ℕ) → RowLaws n (at n) (Canon n)) → (all : ℕ → Content → Content)
    → ((n : ℕ) → NormRow n (at n) (all n))
    → NormSettled IsWireFrame (by_type at) (in_known all)
norm_by_type at Canon laws all rows k f x w e =
    let number = (laws (type_of f.word)).numbered k f x refl e in
    let here = rows (type_of f.word) k f x w refl e in
    go x (subst (λ (m : ℕ). (at m).Settled k (of_row (all m) x)) (sym number) here)
  where
    go : (y : Attribute) → (at (number_of y)).Settled k (of_row (all (number_of y)) y) → (by_type at).Settled k (in_known all y)
    go (known n content) s = s
    go y s = s

norm_every : (c : Codec (List ℕ) Content) (all : Content → Content) → NormSettled IsWireValue (short c) all
    → NormSettled IsWireFrame (every_frame c) (of_row all)
norm_every c all law k f x w e =
    let q = seen-ok (known (type_of f.word)) (c.read k f.value) x e in
    subst (λ (y : Attribute). (every_frame c).Settled k (of_row all y)) q.2 (below f.word, law k f.value q.0 (wire_value f w) q.1)
  where
    below : (m : ℕ) → m % 0x4000 ≤ 0x3FFF
    below m = omega arith

-- the change of one kind, or that of the others
abbrev kind_or : List ℕ → (Attribute → Attribute) → (List ℕ → Attribute → Attribute) → List ℕ → Attribute → Attribute
kind_or name all all' m y = cond (bytes_eq m name) (all y) (all' m y)

norm_kind : (name : List ℕ) (own rest : Codec Frame Attribute) (CanonRest : IsCanonAt) → KindLaws rest CanonRest → (all : Attribute → Attribute)
    → NormSettled IsWireFrame own all
    → (all' : List ℕ → Attribute → Attribute) → NormSettled IsWireFrame rest (in_kind all')
    → NormSettled IsWireFrame (kind_frames name own rest) (in_kind (kind_or name all all'))
norm_kind name own rest CanonRest rest_laws all own_law all' rest_law k f x w e = go (bytes_eq k name) refl e
  where
    elsewhere : (y : Attribute) → bytes_eq k name ≡ false → rest.read k f ≡ Ok y → (kind_frames name own rest).Settled k (in_kind (kind_or name all all') y)
    elsewhere (of_kind m y) h e =
        let away : bytes_eq m name ≡ false = ap (λ (t : List ℕ). bytes_eq t name) (sym (rest_laws.reads_kind k f m y e)) ∙ h in
        rw away (rest_law k f (of_kind m y) w e)
    elsewhere (known n content) h e = rw h (rest_law k f (known n content) w e)
    elsewhere (kept n word value) h e = rw h (rest_law k f (kept n word value) w e)
    elsewhere (other word value) h e = rw h (rest_law k f (other word value) w e)

    go : (b : Bool) → bytes_eq k name ≡ b → cond b (seen (of_kind name) (own.read k f)) (rest.read k f) ≡ Ok x
        → (kind_frames name own rest).Settled k (in_kind (kind_or name all all') x)
    go true h e =
        let q = seen-ok (of_kind name) (own.read k f) x e in
        subst (λ (y : Attribute). (kind_frames name own rest).Settled k (in_kind (kind_or name all all') y)) q.2
        (rw (bytes_eq-refl name) (h, own_law k f q.0 w q.1))
    go false h e = elsewhere x h e

-- ---- everything

mutual
  class_norm : (c : Class) → is_sound_class c ≡ true → NormSettled IsWireValue (short (class_codec c)) (trimmed_class without_nuls c)
  class_norm (le n) sound = λ k v x w e. tt
  class_norm (be n) sound = λ k v x w e. tt
  class_norm (masked n bits) sound = λ k v x w e. mask-below bits (a_number.out x)
  class_norm (array n) sound = λ k v x w e. tt
  class_norm raw sound = λ k v x w e. tt
  class_norm text sound = λ k v x w e. tt
  class_norm warning sound = λ k v x w e. strip-none (without_nuls (some_bytes.out x)) (without-ends (some_bytes.out x))
  class_norm presence sound = λ k v x w e. settled-presence k v x e
  class_norm truth sound = λ k v x w e. tt
  class_norm (fields layout) sound = λ k v x w e. settled-record layout k v x e
  class_norm selector sound = λ k v x w e. tt
  class_norm pair sound = λ k v x w e. settled-fields flags_pair (a_record.out x) refl
  class_norm xstats sound = λ k v x w e. settled-xstats k v x e
  class_norm (list_of t) sound =
      norm_items (list_codec keep keep (table_codec t)) (map (trimmed_table without_nuls t))
      (norm_list (table_codec t) (trimmed_table without_nuls t) (table_norm t sound) keep keep (λ k f x w e. refl) (λ x. refl))
  class_norm (own_list rows) sound =
      let s = and_parts (starts_with_kind rows) (is_sound_rows rows) sound in
      norm_items (own_codec (by_type (rows_codec rows))) (map (in_known (trimmed_rows without_nuls rows)))
      (norm_own (by_type (rows_codec rows)) (rows_read_kinds rows s.0 (λ n. rows_laws rows s.1 n)) (in_known (trimmed_rows without_nuls rows))
      (norm_by_type (rows_codec rows) (CanonRows rows) (λ n. rows_laws rows s.1 n) (trimmed_rows without_nuls rows) (λ n. rows_norm rows s.1 n))
      (same_kind without_nuls rows s.0))

  pub table_norm : (t : Table) → is_sound_table t ≡ true → NormSettled IsWireFrame (table_codec t) (trimmed_table without_nuls t)
  table_norm (table rows) sound =
      norm_by_type (rows_codec rows) (CanonRows rows) (λ n. rows_laws rows sound n) (trimmed_rows without_nuls rows) (λ n. rows_norm rows sound n)
  table_norm (every class) sound = norm_every (class_codec class) (trimmed_class without_nuls class) (class_norm class sound)
  table_norm (by_kind kinds) sound = kinds_norm kinds sound

  rows_norm : (rows : Rows) → is_sound_rows rows ≡ true → (n : ℕ) → NormRow n (rows_codec rows n) (trimmed_rows without_nuls rows n)
  rows_norm others sound n = norm_raw n
  rows_norm (types first last flags class rows) sound n =
      let a = and_parts (is_type last) (are_flags flags && (is_sound_class class && is_sound_rows rows)) sound in
      let b = and_parts (are_flags flags) (is_sound_class class && is_sound_rows rows) a.1 in
      let c = and_parts (is_sound_class class) (is_sound_rows rows) b.1 in
      norm_choose n (is_within first last n) (row_frames (flags + n) n (class_codec class)) (rows_codec rows n) (trimmed_class without_nuls class)
      (trimmed_rows without_nuls rows n)
      (λ within. norm_row (flags + n) n (class_codec class) (trimmed_class without_nuls class) (class_norm class c.0)) (rows_norm rows c.1 n)
  rows_norm (unread m class rows) sound n =
      let a = and_parts (is_type m) (is_free m rows && (is_sound_class class && is_sound_rows rows)) sound in
      let b = and_parts (is_free m rows) (is_sound_class class && is_sound_rows rows) a.1 in
      let c = and_parts (is_sound_class class) (is_sound_rows rows) b.1 in
      norm_choose n (eqb n m) (unread_frames m (class_codec class)) (rows_codec rows n) (trimmed_class without_nuls class) (trimmed_rows without_nuls rows n)
      (λ same. norm_unread n m (class_codec class) (trimmed_class without_nuls class)) (rows_norm rows c.1 n)
  rows_norm (options m kinds rows) sound n =
      let a = and_parts (is_type m) (is_sound_kinds kinds && is_sound_rows rows) sound in
      let b = and_parts (is_sound_kinds kinds) (is_sound_rows rows) a.1 in
      norm_choose n (eqb n m) (options_frames m kinds (via a_list (list_codec keep keep (kinds_codec kinds)))) (rows_codec rows n)
      (on a_list (map (in_kind (trimmed_kinds without_nuls kinds)))) (trimmed_rows without_nuls rows n)
      (λ same. subst (λ (i : ℕ). NormRow i (options_frames m kinds (via a_list (list_codec keep keep (kinds_codec kinds))))
      (on a_list (map (in_kind (trimmed_kinds without_nuls kinds))))) (sym (eqb-true n m same))
      (norm_options m kinds (via a_list (list_codec keep keep (kinds_codec kinds))) (on a_list (map (in_kind (trimmed_kinds without_nuls kinds))))
      (norm_items (list_codec keep keep (kinds_codec kinds)) (map (in_kind (trimmed_kinds without_nuls kinds)))
      (norm_list (kinds_codec kinds) (in_kind (trimmed_kinds without_nuls kinds)) (kinds_norm kinds b.0) keep keep (λ k f x w e. refl) (λ x. refl)))))
      (rows_norm rows b.1 n)

  kinds_norm : (kinds : Kinds) → is_sound_kinds kinds ≡ true → NormSettled IsWireFrame (kinds_codec kinds) (in_kind (trimmed_kinds without_nuls kinds))
  kinds_norm unknown sound = λ k f x w e. tt
  kinds_norm (kind name rows kinds) sound =
      let a = and_parts (is_sound_rows rows) (is_sound_kinds kinds) sound in
      norm_kind name (by_type (rows_codec rows)) (kinds_codec kinds) (CanonKinds kinds) (kinds_laws kinds a.1)
      (in_known (trimmed_rows without_nuls rows))
      (norm_by_type (rows_codec rows) (CanonRows rows) (λ n. rows_laws rows a.0 n) (trimmed_rows without_nuls rows) (λ n. rows_norm rows a.0 n))
      (trimmed_kinds without_nuls kinds) (kinds_norm kinds a.1)

-- The laws of records, for every layout at once.
use Rattle.std.proofs.Common.{◌≡◌, ◌↔◌, ℕ, ◌+◌, ◌^◌, ◌<◌, ◌≤◌, Bool, true, false, List, [], ◌∷◌, ◌++◌, length, take, drop, replicate, reverse, Ok, cond, ltb}
use Rattle.std.proofs.Common.{refl, sym, ap, subst, ◌∙◌, arith, append_assoc}
use Rattle.std.proofs.lemmas.List.{length-append, length-replicate, length-reverse, reverse-reverse, length-drop, take_at, drop_at, take-append-drop}
use Rattle.std.proofs.lemmas.List.{length-take-le, take-append-le, drop-append-le, append-nil, nil_from_length}
use Rattle.std.proofs.lemmas.Bool.{ltb-false, le-ltb}
use Rattle.nla_frames.specs.Fault.{read_as}
use Rattle.nla_frames.specs.declared.error.DecodeError.TheVariants.{BufferTooSmall}
use Rattle.nla_frames.specs.Value.{IsBytes, le_bytes, le_value}
use Rattle.nla_frames.specs.Codec.{Laws}
use Rattle.nla_frames.proofs.Bytes.{IsBytes-nil, IsBytes-append, IsBytes-take, IsBytes-drop, IsBytes-replicate, IsBytes-le_bytes, length-le_bytes}
use Rattle.nla_frames.proofs.Bytes.{le_value-le_bytes, le_value_below, le_bytes-le_value}
use Rattle.tc_canon.specs.Descriptor.{Field, little, big, named, octets, pad, fields}
use Rattle.tc_canon.specs.Canonical.{PadsZero, CanonFields, CanonClass}
use Rattle.tc_canon.specs.Layouts.{width, size_of}
use Rattle.tc_meaning.specs.Tree.{Scalar, plain, unnamed, octets_of, blank}
use Rattle.tc_meaning.specs.Layout.{read_field, read_fields, field_bytes, fields_bytes, has_name, TypedField, TypedFields, SettledField, SettledFields}
use Rattle.tc_meaning.specs.Content.{read_record, record_codec}
use Rattle.tc_meaning.proofs.Outcomes.{kept-ok, ok-same}
use Rattle.tc_meaning.proofs.Numbers.{IsBytes-reverse}

-- ---- one field

-- the bytes of a field, of its own width
abbrev pub FieldWire : Field → List ℕ → Type 0
FieldWire f v = IsBytes v × (length v ≡ width f)

-- in bytes of its own width a field's padding is zero
abbrev pub PadZero : Field → List ℕ → Type 0
PadZero (pad n) v = v ≡ replicate n 0
PadZero f v = Unit {0}

value_below : (n : ℕ) (v : List ℕ) → length v ≡ n → IsBytes v → le_value v < 256 ^ n
value_below n v e h = rw e at (le_value_below v h)

-- a field's bytes have its width
pub length-field_bytes : (f : Field) (x : Scalar) → TypedField f x → length (field_bytes f x) ≡ width f
length-field_bytes (little n) (plain x) t = length-le_bytes n x
length-field_bytes (big n) (plain x) t = length-reverse (le_bytes n x) ∙ length-le_bytes n x
length-field_bytes (named n names) (plain x) t = length-le_bytes n x
length-field_bytes (named n names) (unnamed x) t = length-le_bytes n x
length-field_bytes (octets n) (octets_of v) t = t.0
length-field_bytes (pad n) blank t = length-replicate n 0
length-field_bytes f x t = elim t [ ]

pub IsBytes-field_bytes : (f : Field) (x : Scalar) → TypedField f x → IsBytes (field_bytes f x)
IsBytes-field_bytes (little n) (plain x) t = IsBytes-le_bytes n x
IsBytes-field_bytes (big n) (plain x) t = IsBytes-reverse (le_bytes n x) (IsBytes-le_bytes n x)
IsBytes-field_bytes (named n names) (plain x) t = IsBytes-le_bytes n x
IsBytes-field_bytes (named n names) (unnamed x) t = IsBytes-le_bytes n x
IsBytes-field_bytes (octets n) (octets_of v) t = t.1
IsBytes-field_bytes (pad n) blank t = IsBytes-replicate n 0 (omega arith)
IsBytes-field_bytes f x t = elim t [ ]

typed_name : (n : ℕ) (names : List ℕ) (x : ℕ) (b : Bool) → has_name names x ≡ b → x < 256 ^ n → TypedField (named n names) (cond b (plain x) (unnamed x))
typed_name n names x true e below = (below, e)
typed_name n names x false e below = below

-- what is read of a field is typed
pub typed-field : (f : Field) (v : List ℕ) → FieldWire f v → TypedField f (read_field f v)
typed-field (little n) v w = value_below n v w.1 w.0
typed-field (big n) v w = value_below n (reverse v) (length-reverse v ∙ w.1) (IsBytes-reverse v w.0)
typed-field (named n names) v w = typed_name n names (le_value v) (has_name names (le_value v)) refl (value_below n v w.1 w.0)
typed-field (octets n) v w = (w.1, w.0)
typed-field (pad n) v w = tt

-- what a field is written as reads back exactly when it is settled
name_back : (names : List ℕ) (x y : ℕ) (b : Bool) → has_name names y ≡ b → y ≡ x → (cond b (plain y) (unnamed y) ≡ unnamed x) ↔ (has_name names x ≡ false)
name_back names x y true e same = (λ h. absurd cc, λ s. let h : false ≡ true = sym s ∙ ap (has_name names) (sym same) ∙ e in absurd cc)
name_back names x y false e same = (λ h. rw same at e, λ s. ap unnamed same)

pub back-field : (f : Field) (x : Scalar) → TypedField f x → (read_field f (field_bytes f x) ≡ x) ↔ SettledField f x
back-field (little n) (plain x) t = (λ e. tt, λ s. ap plain (le_value-le_bytes n x t))
back-field (big n) (plain x) t = (λ e. tt, λ s. ap plain (ap le_value (reverse-reverse (le_bytes n x)) ∙ le_value-le_bytes n x t))
back-field (named n names) (plain x) t = (λ e. tt, λ s. rw (le_value-le_bytes n x t.0, t.1) refl)
back-field (named n names) (unnamed x) t = name_back names x (le_value (le_bytes n x)) (has_name names (le_value (le_bytes n x))) refl (le_value-le_bytes n x t)
back-field (octets n) (octets_of v) t = (λ e. tt, λ s. refl)
back-field (pad n) blank t = (λ e. tt, λ s. refl)
back-field f x t = elim t [ ]

-- what is read of a field is written as it was exactly when its padding was zero
name_bytes : (n : ℕ) (names : List ℕ) (x : ℕ) (b : Bool) → field_bytes (named n names) (cond b (plain x) (unnamed x)) ≡ le_bytes n x
name_bytes n names x true = refl
name_bytes n names x false = refl

pub same-field : (f : Field) (v : List ℕ) → FieldWire f v → (field_bytes f (read_field f v) ≡ v) ↔ PadZero f v
same-field (little n) v w = (λ e. tt, λ c. le_bytes-le_value n v w.1 w.0)
same-field (big n) v w = (λ e. tt, λ c. ap reverse (le_bytes-le_value n (reverse v) (length-reverse v ∙ w.1) (IsBytes-reverse v w.0)) ∙ reverse-reverse v)
same-field (named n names) v w = (λ e. tt, λ c. name_bytes n names (le_value v) (has_name names (le_value v)) ∙ le_bytes-le_value n v w.1 w.0)
same-field (octets n) v w = (λ e. tt, λ c. refl)
same-field (pad n) v w = (λ e. sym e, λ c. sym c)

-- ---- all fields

pub length-fields_bytes : (fs : List Field) (xs : List Scalar) → TypedFields fs xs → length (fields_bytes fs xs) ≡ size_of fs
length-fields_bytes [] [] t = refl
length-fields_bytes [] (x ∷ xs) t = elim t [ ]
length-fields_bytes (f ∷ fs) [] t = elim t [ ]
length-fields_bytes (f ∷ fs) (x ∷ xs) t = rw (length-append, length-field_bytes f x t.0, length-fields_bytes fs xs t.1) refl

pub IsBytes-fields_bytes : (fs : List Field) (xs : List Scalar) → TypedFields fs xs → IsBytes (fields_bytes fs xs)
IsBytes-fields_bytes [] [] t = IsBytes-nil
IsBytes-fields_bytes [] (x ∷ xs) t = elim t [ ]
IsBytes-fields_bytes (f ∷ fs) [] t = elim t [ ]
IsBytes-fields_bytes (f ∷ fs) (x ∷ xs) t = IsBytes-append (field_bytes f x) (fields_bytes fs xs) (IsBytes-field_bytes f x t.0) (IsBytes-fields_bytes fs xs t.1)

-- the first field of bytes that are long enough
front-wire : (f : Field) (m : ℕ) (v : List ℕ) → IsBytes v → width f + m ≤ length v → FieldWire f (take (width f) v)
front-wire f m v w long = (IsBytes-take (width f) v w, length-take-le (width f) v (omega arith))

rest-long : (f : Field) (m : ℕ) (v : List ℕ) → width f + m ≤ length v → m ≤ length (drop (width f) v)
rest-long f m v long = rw length-drop (omega arith)

pub typed-fields : (fs : List Field) (v : List ℕ) → IsBytes v → size_of fs ≤ length v → TypedFields fs (read_fields fs v)
typed-fields [] v w long = tt
typed-fields (f ∷ fs) v w long = (
  typed-field f (take (width f) v) (front-wire f (size_of fs) v w long),
  typed-fields fs (drop (width f) v) (IsBytes-drop (width f) v w) (rest-long f (size_of fs) v long),
)

-- two lists that begin the same
cons-parts : {X : Type 0} (x y : X) (xs ys : List X) → x ∷ xs ≡ y ∷ ys → (x ≡ y) × (xs ≡ ys)
cons-parts x y xs ys e = (cc, cc)

-- fields that are written in front of other bytes read back exactly when they are settled
pub back-fields : (fs : List Field) (xs : List Scalar) (more : List ℕ) → TypedFields fs xs
    → (read_fields fs (fields_bytes fs xs ++ more) ≡ xs) ↔ SettledFields fs xs
back-fields [] [] more t = (λ e. tt, λ s. refl)
back-fields [] (x ∷ xs) more t = elim t [ ]
back-fields (f ∷ fs) [] more t = elim t [ ]
back-fields (f ∷ fs) (x ∷ xs) more t = go (back-field f x t.0) (back-fields fs xs more t.1)
  where
    front : List ℕ
    front = field_bytes f x

    others : List ℕ
    others = fields_bytes fs xs

    whole : (front ++ others) ++ more ≡ front ++ (others ++ more)
    whole = append_assoc front others more

    first : take (width f) ((front ++ others) ++ more) ≡ front
    first = ap (take (width f)) whole ∙ take_at front (others ++ more) (width f) (length-field_bytes f x t.0)

    rest : drop (width f) ((front ++ others) ++ more) ≡ others ++ more
    rest = ap (drop (width f)) whole ∙ drop_at front (others ++ more) (width f) (length-field_bytes f x t.0)

    go : (read_field f front ≡ x) ↔ SettledField f x → (read_fields fs (others ++ more) ≡ xs) ↔ SettledFields fs xs
        → (read_field f (take (width f) ((front ++ others) ++ more)) ∷ read_fields fs (drop (width f) ((front ++ others) ++ more)) ≡ x ∷ xs)
        ↔ (SettledField f x × SettledFields fs xs)
    go one others_back = (
      (λ e.
          let parts = cons-parts _ _ _ _ e in
          (one.0 (ap (read_field f) (sym first) ∙ parts.0), others_back.0 (ap (read_fields fs) (sym rest) ∙ parts.1))),
      (λ s.
          let a = ap (read_field f) first ∙ one.1 s.0 in
          let b = ap (read_fields fs) rest ∙ others_back.1 s.1 in
          cc),
    )

-- the padding of the first field, and that of the others
pads : (f : Field) (fs : List Field) (v : List ℕ) → PadsZero (f ∷ fs) v ↔ (PadZero f (take (width f) v) × PadsZero fs (drop (width f) v))
pads (little n) fs v = (λ c. (tt, c), λ c. c.1)
pads (big n) fs v = (λ c. (tt, c), λ c. c.1)
pads (named n names) fs v = (λ c. (tt, c), λ c. c.1)
pads (octets n) fs v = (λ c. (tt, c), λ c. c.1)
pads (pad n) fs v = (λ c. c, λ c. c)

-- what is read of bytes of the layout's size is written as they were exactly when all padding was zero
pub same-fields : (fs : List Field) (v : List ℕ) → IsBytes v → length v ≡ size_of fs → (fields_bytes fs (read_fields fs v) ≡ v) ↔ PadsZero fs v
same-fields [] v w len = (λ e. tt, λ c. sym (nil_from_length v len))
same-fields (f ∷ fs) v w len = go (same-field f front front_wire) (same-fields fs rest (IsBytes-drop (width f) v w) rest_length)
  where
    front : List ℕ
    front = take (width f) v

    rest : List ℕ
    rest = drop (width f) v

    front_wire : FieldWire f front
    front_wire = front-wire f (size_of fs) v w (omega arith)

    rest_length : length rest ≡ size_of fs
    rest_length = rw length-drop (omega arith)

    written : List ℕ
    written = field_bytes f (read_field f front)

    length-written : length written ≡ width f
    length-written = length-field_bytes f (read_field f front) (typed-field f front front_wire)

    go : (written ≡ front) ↔ PadZero f front → (fields_bytes fs (read_fields fs rest) ≡ rest) ↔ PadsZero fs rest
        → (written ++ fields_bytes fs (read_fields fs rest) ≡ v) ↔ PadsZero (f ∷ fs) v
    go one others = (
      (λ e. (pads f fs v).1 (
        one.0 (sym (take_at written (fields_bytes fs (read_fields fs rest)) (width f) length-written) ∙ ap (take (width f)) e),
        others.0 (sym (drop_at written (fields_bytes fs (read_fields fs rest)) (width f) length-written) ∙ ap (drop (width f)) e),
      )),
      (λ c.
          let parts = (pads f fs v).0 c in
          let a : written ≡ front = one.1 parts.0 in
          let b : fields_bytes fs (read_fields fs rest) ≡ rest = others.1 parts.1 in
          rw (a, b) (take-append-drop (width f) v)),
    )

-- the fields of bytes don't depend on what follows
pub read_fields-append : (fs : List Field) (v more : List ℕ) → size_of fs ≤ length v → read_fields fs (v ++ more) ≡ read_fields fs v
read_fields-append [] v more long = refl
read_fields-append (f ∷ fs) v more long =
    let inside : width f ≤ length v = omega arith in
    let a = take-append-le (width f) v more inside in
    let b = drop-append-le (width f) v more inside in
    let others = read_fields-append fs (drop (width f) v) more (rest-long f (size_of fs) v long) in
    rw (a, b, others) refl

-- what is read of longer bytes is what is read of the first of them
pub read_fields-take : (fs : List Field) (v : List ℕ) → size_of fs ≤ length v → read_fields fs v ≡ read_fields fs (take (size_of fs) v)
read_fields-take fs v long =
    ap (read_fields fs) (sym (take-append-drop (size_of fs) v))
    ∙ read_fields-append fs (take (size_of fs) v) (drop (size_of fs) v) (rw (length-take-le (size_of fs) v long) (omega arith))

-- ---- records

pub read_record-ok : (fs : List Field) (v : List ℕ) (x : List Scalar) → read_record fs v ≡ Ok x → (size_of fs ≤ length v) × (read_fields fs v ≡ x)
read_record-ok fs v x e =
    let r = kept-ok (ltb (length v) (size_of fs)) (BufferTooSmall (length v) (size_of fs)) (read_as (read_fields fs v)) x e in
    (ltb-false (length v) (size_of fs) r.0, ok-same (read_fields fs v) x r.1)

pub read_record-long : (fs : List Field) (v : List ℕ) → size_of fs ≤ length v → read_record fs v ≡ Ok (read_fields fs v)
read_record-long fs v long = rw (le-ltb (length v) (size_of fs) long) refl

pub fields_laws : (fs : List Field) → Laws IsBytes (record_codec fs) (CanonClass (fields fs))
fields_laws fs = record {
  makes = λ x t f. IsBytes-fields_bytes fs x t;
  typed = λ k v x w e. let r = read_record-ok fs v x e in subst (TypedFields fs) r.1 (typed-fields fs v w r.0);
  back = λ k x t f. (back_from x t, back_to x t);
  same = λ k v x w e f. (same_from v x w e, same_to v x w e);
  reads = λ k v w c. (read_fields fs v, read_record-long fs v (omega (arith, c.0)), tt);
}
  where
    again : (x : List Scalar) → (read_fields fs (fields_bytes fs x ++ []) ≡ x) → read_fields fs (fields_bytes fs x) ≡ x
    again x e = ap (read_fields fs) (sym (append-nil (fields_bytes fs x))) ∙ e

    back_from : (x : List Scalar) → TypedFields fs x → read_record fs (fields_bytes fs x) ≡ Ok x → SettledFields fs x
    back_from x t e = (back-fields fs x [] t).0 (ap (read_fields fs) (append-nil (fields_bytes fs x)) ∙ (read_record-ok fs (fields_bytes fs x) x e).1)

    back_to : (x : List Scalar) → TypedFields fs x → SettledFields fs x → read_record fs (fields_bytes fs x) ≡ Ok x
    back_to x t s =
        read_record-long fs (fields_bytes fs x) (omega (arith, length-fields_bytes fs x t))
        ∙ ap (λ (y : List Scalar). read_as y) (again x ((back-fields fs x [] t).1 s))

    same_from : (v : List ℕ) (x : List Scalar) → IsBytes v → read_record fs v ≡ Ok x → fields_bytes fs x ≡ v → CanonFields fs v
    same_from v x w e s =
        let r = read_record-ok fs v x e in
        let t : TypedFields fs x = subst (TypedFields fs) r.1 (typed-fields fs v w r.0) in
        let len : length v ≡ size_of fs = ap length (sym s) ∙ length-fields_bytes fs x t in
        (len, (same-fields fs v w len).0 (ap (fields_bytes fs) r.1 ∙ s))

    same_to : (v : List ℕ) (x : List Scalar) → IsBytes v → read_record fs v ≡ Ok x → CanonFields fs v → fields_bytes fs x ≡ v
    same_to v x w e c = ap (fields_bytes fs) (sym (read_record-ok fs v x e).1) ∙ (same-fields fs v w c.0).1 c.1

-- The laws of pairs of flag words and of selectors.
use Rattle.std.proofs.Common.{◌≡◌, ℕ, zero, suc, ◌+◌, ◌-◌, ◌*◌, ◌≤◌, Bool, true, false, List, [], ◌∷◌, ◌++◌, length, take, drop, get_or, Ok, refl, sym, ap, ap₂}
use Rattle.std.proofs.Common.{subst, ◌∙◌, arith, ltb, cond}
use Rattle.std.specs.List.{flat_map, AllByRecursion}
use Rattle.std.proofs.lemmas.List.{length-append, length-drop, length-take-le, take_at, drop_at, take-append-drop, append-nil}
use Rattle.std.proofs.lemmas.Bool.{ltb-false, le-ltb}
use Rattle.nla_frames.specs.Fault.{Outcome, seen, read_as, refused}
use Rattle.nla_frames.specs.declared.error.DecodeError.TheVariants.{SelectorShort}
use Rattle.nla_frames.specs.Value.{IsBytes, exactly}
use Rattle.nla_frames.specs.Codec.{Laws}
use Rattle.nla_frames.proofs.Bytes.{IsBytes-nil, IsBytes-append, IsBytes-take, IsBytes-drop}
use Rattle.tc_canon.specs.Descriptor.{Field, little, big, named, octets, pad, pair, selector}
use Rattle.tc_canon.specs.Canonical.{CanonClass, CanonSelector, keys_counted}
use Rattle.tc_canon.specs.Layouts.{selector_head, selector_key}
use Rattle.tc_meaning.specs.Tree.{Scalar}
use Rattle.tc_meaning.specs.Layout.{read_fields, fields_bytes, TypedFields, SettledFields}
use Rattle.tc_meaning.specs.Content.{flags_pair, pair_codec, Selector, key_count, read_keys, read_selector, selector_codec}
use Rattle.tc_meaning.proofs.Outcomes.{seen-ok, ok-seen, kept-ok, ok-same}
use Rattle.tc_meaning.proofs.Numbers.{exact, exact-length}
use Rattle.tc_meaning.proofs.Fields.{length-fields_bytes, IsBytes-fields_bytes, typed-fields, back-fields, same-fields, read_fields-take}

-- no field is a named number
abbrev pub has_no_names : List Field → Bool
has_no_names [] = true
has_no_names (named n names ∷ fs) = false
has_no_names (f ∷ fs) = has_no_names fs

-- so that every value is settled
pub settled-fields : (fs : List Field) (xs : List Scalar) → has_no_names fs ≡ true → SettledFields fs xs
settled-fields [] xs none = tt
settled-fields (f ∷ fs) [] none = tt
settled-fields (named n names ∷ fs) (x ∷ xs) none = absurd cc
settled-fields (little n ∷ fs) (x ∷ xs) none = (tt, settled-fields fs xs none)
settled-fields (big n ∷ fs) (x ∷ xs) none = (tt, settled-fields fs xs none)
settled-fields (octets n ∷ fs) (x ∷ xs) none = (tt, settled-fields fs xs none)
settled-fields (pad n ∷ fs) (x ∷ xs) none = (tt, settled-fields fs xs none)

-- ---- two words of flags

pub pair_laws : Laws IsBytes pair_codec (CanonClass pair)
pair_laws = record {
  makes = λ x t f. IsBytes-fields_bytes flags_pair x t;
  typed = λ k v x w e. let r = read v x e in subst (TypedFields flags_pair) r.1 (typed-fields flags_pair v w (omega (arith, r.0)));
  back = λ k x t f. (λ e. settled-fields flags_pair x refl, λ s. back x t);
  same = λ k v x w e f. let r = read v x e in (λ s. r.0, λ c. ap (fields_bytes flags_pair) (sym r.1) ∙ (same-fields flags_pair v w r.0).1 tt);
  reads = λ k v w c. (read_fields flags_pair v, ok-seen (read_fields flags_pair) (exactly 8 v) v (exact 8 v v c), tt);
}
  where
    read : (v : List ℕ) (x : List Scalar) → seen (read_fields flags_pair) (exactly 8 v) ≡ Ok x → (length v ≡ 8) × (read_fields flags_pair v ≡ x)
    read v x e =
        let r = seen-ok (read_fields flags_pair) (exactly 8 v) x e in
        let q = exact-length 8 v v r.0 r.1 in
        (q.0, ap (read_fields flags_pair) q.1 ∙ r.2)

    back : (x : List Scalar) → TypedFields flags_pair x → seen (read_fields flags_pair) (exactly 8 (fields_bytes flags_pair x)) ≡ Ok x
    back x t =
        let v = fields_bytes flags_pair x in
        let again : read_fields flags_pair v ≡ x =
        ap (read_fields flags_pair) (sym (append-nil v)) ∙ (back-fields flags_pair x [] t).1 (settled-fields flags_pair x refl) in
        ok-seen (read_fields flags_pair) (exactly 8 v) v (exact 8 v v (length-fields_bytes flags_pair x t)) ∙ ap (λ (y : List Scalar). read_as y) again

-- ---- keys

length-keys_bytes : (keys : List (List Scalar)) → AllByRecursion (TypedFields selector_key) keys
    → length (flat_map (fields_bytes selector_key) keys) ≡ 16 * length keys
length-keys_bytes [] t = refl
length-keys_bytes (x ∷ keys) t = rw length-append (omega (arith, length-fields_bytes selector_key x t.0, length-keys_bytes keys t.1))

IsBytes-keys_bytes : (keys : List (List Scalar)) → AllByRecursion (TypedFields selector_key) keys → IsBytes (flat_map (fields_bytes selector_key) keys)
IsBytes-keys_bytes [] t = IsBytes-nil
IsBytes-keys_bytes (x ∷ keys) t =
    IsBytes-append (fields_bytes selector_key x) (flat_map (fields_bytes selector_key) keys) (IsBytes-fields_bytes selector_key x t.0)
    (IsBytes-keys_bytes keys t.1)

length-read_keys : (n : ℕ) (v : List ℕ) → length (read_keys n v) ≡ n
length-read_keys zero v = refl
length-read_keys (suc n) v = ap suc (length-read_keys n (drop 16 v))

typed-keys : (n : ℕ) (v : List ℕ) → IsBytes v → 16 * n ≤ length v → AllByRecursion (TypedFields selector_key) (read_keys n v)
typed-keys zero v w long = tt
typed-keys (suc n) v w long = (typed-fields selector_key v w (omega arith), typed-keys n (drop 16 v) (IsBytes-drop 16 v w) (rw length-drop (omega arith)))

back-keys : (keys : List (List Scalar)) → AllByRecursion (TypedFields selector_key) keys
    → read_keys (length keys) (flat_map (fields_bytes selector_key) keys) ≡ keys
back-keys [] t = refl
back-keys (x ∷ keys) t =
    let more = flat_map (fields_bytes selector_key) keys in
    let first = (back-fields selector_key x more t.0).1 (settled-fields selector_key x refl) in
    let rest : drop 16 (fields_bytes selector_key x ++ more) ≡ more = drop_at (fields_bytes selector_key x) more 16 (length-fields_bytes selector_key x t.0) in
    ap₂ (λ (a : List Scalar) (b : List (List Scalar)). a ∷ b) first (ap (read_keys (length keys)) rest ∙ back-keys keys t.1)

same-keys : (n : ℕ) (v : List ℕ) → IsBytes v → length v ≡ 16 * n → flat_map (fields_bytes selector_key) (read_keys n v) ≡ v
same-keys zero v w len = go v len
  where
    go : (v : List ℕ) → length v ≡ 16 * 0 → [] ≡ v
    go [] e = refl
    go (b ∷ v) e = absurd (omega arith)
same-keys (suc n) v w len =
    let inside : 16 ≤ length v = omega arith in
    let first : fields_bytes selector_key (read_fields selector_key v) ≡ take 16 v =
    ap (fields_bytes selector_key) (read_fields-take selector_key v inside)
    ∙ (same-fields selector_key (take 16 v) (IsBytes-take 16 v w) (length-take-le 16 v inside)).1 tt in
    let others = same-keys n (drop 16 v) (IsBytes-drop 16 v w) (rw length-drop (omega arith)) in
    ap₂ (λ (a b : List ℕ). a ++ b) first others ∙ take-append-drop 16 v

-- ---- selectors

-- the count in a head that was read is its third byte
key_count-read : (v : List ℕ) → 16 ≤ length v → key_count (read_fields selector_head v) ≡ get_or v 2 0
key_count-read [] long = absurd (omega arith)
key_count-read (a ∷ []) long = absurd (omega arith)
key_count-read (a ∷ b ∷ []) long = absurd (omega arith)
key_count-read (a ∷ b ∷ c ∷ v) long = omega arith

-- what a selector that was read is
record IsSelector (v : List ℕ) (x : Selector) : Type 0 where
  long : 16 ≤ length v
  keys_long : 16 + 16 * key_count x.head ≤ length v
  head : read_fields selector_head v ≡ x.head
  keys : read_keys (key_count x.head) (drop 16 v) ≡ x.keys

read_selector-ok : (v : List ℕ) (x : Selector) → read_selector v ≡ Ok x → IsSelector v x
read_selector-ok v x e =
    let head = read_fields selector_head v in
    let needed = 16 + 16 * key_count head in
    let made : Selector = record { head = head; keys = read_keys (key_count head) (drop 16 v) } in
    let r = kept-ok (ltb (length v) 16) (SelectorShort (length v) 16) _ x e in
    let q = kept-ok (ltb (length v) needed) (SelectorShort (length v) needed) (read_as made) x r.1 in
    let same : made ≡ x = ok-same made x q.1 in
    let is_head : head ≡ x.head = ap (λ (s : Selector). s.head) same in
    record {
      long = ltb-false (length v) 16 r.0;
      keys_long = rw (← is_head) (ltb-false (length v) needed q.0);
      head = is_head;
      keys = rw (← is_head) (ap (λ (s : Selector). s.keys) same);
    }

-- the reading of a selector, from its head
with_head : List ℕ → List Scalar → Outcome Selector
with_head v head =
    cond (ltb (length v) 16) (refused (SelectorShort (length v) 16))
    (cond (ltb (length v) (16 + 16 * key_count head)) (refused (SelectorShort (length v) (16 + 16 * key_count head)))
    (read_as (record { head = head; keys = read_keys (key_count head) (drop 16 v) })))

with_head-ok : (v : List ℕ) (x : Selector) → 16 ≤ length v → 16 + 16 * key_count x.head ≤ length v → read_keys (key_count x.head) (drop 16 v) ≡ x.keys
    → with_head v x.head ≡ Ok x
unfolding with_head
with_head-ok v x long keys_long keys =
    rw (le-ltb (length v) 16 long, le-ltb (length v) (16 + 16 * key_count x.head) keys_long)
    (ap (λ (ks : List (List Scalar)). read_as (record { head = x.head; keys = ks })) keys)

read_selector-is : (v : List ℕ) (x : Selector) → IsSelector v x → read_selector v ≡ Ok x
unfolding with_head
read_selector-is v x is = ap (with_head v) is.head ∙ with_head-ok v x is.long is.keys_long is.keys

pub selector_laws : Laws IsBytes selector_codec (CanonClass selector)
selector_laws = record {
  makes = λ x t f. IsBytes-append (fields_bytes selector_head x.head) (keys_bytes_of x) (IsBytes-fields_bytes selector_head x.head t.0)
      (IsBytes-keys_bytes x.keys t.1);
  typed = λ k v x w e. typed v x w (read_selector-ok v x e);
  back = λ k x t f. (λ e. tt, λ s. read_selector-is (written x) x (back x t f));
  same = λ k v x w e f. (λ s. same_from v x w (read_selector-ok v x e) f s, λ c. same_to v x w (read_selector-ok v x e) c);
  reads = λ k v w c. reads v c;
}
  where
    keys_bytes_of : Selector → List ℕ
    keys_bytes_of x = flat_map (fields_bytes selector_key) x.keys

    written : Selector → List ℕ
    written x = fields_bytes selector_head x.head ++ flat_map (fields_bytes selector_key) x.keys

    IsTyped : Selector → Type 0
    IsTyped x = TypedFields selector_head x.head × AllByRecursion (TypedFields selector_key) x.keys

    typed : (v : List ℕ) (x : Selector) → IsBytes v → IsSelector v x → IsTyped x
    typed v x w is = (
      subst (TypedFields selector_head) is.head (typed-fields selector_head v w is.long),
      subst (AllByRecursion (TypedFields selector_key)) is.keys
          (typed-keys (key_count x.head) (drop 16 v) (IsBytes-drop 16 v w) (rw length-drop (omega (arith, is.keys_long)))),
    )

    length-written : (x : Selector) → IsTyped x → length (written x) ≡ 16 + 16 * length x.keys
    length-written x t = rw length-append (omega (arith, length-fields_bytes selector_head x.head t.0, length-keys_bytes x.keys t.1))

    back : (x : Selector) → IsTyped x → key_count x.head ≡ length x.keys → IsSelector (written x) x
    back x t f =
        let len = length-written x t in
        let rest : drop 16 (written x) ≡ keys_bytes_of x =
        drop_at (fields_bytes selector_head x.head) (keys_bytes_of x) 16 (length-fields_bytes selector_head x.head t.0) in
        record {
          long = omega (arith, len);
          keys_long = omega (arith, len, f);
          head = (back-fields selector_head x.head (keys_bytes_of x) t.0).1 (settled-fields selector_head x.head refl);
          keys = ap (read_keys (key_count x.head)) rest ∙ ap (λ (n : ℕ). read_keys n (keys_bytes_of x)) f ∙ back-keys x.keys t.1;
        }

    -- the head of what was read
    same_head : (v : List ℕ) (x : Selector) → IsSelector v x → read_fields selector_head (take 16 v) ≡ x.head
    same_head v x is = sym (read_fields-take selector_head v is.long) ∙ is.head

    counted : (v : List ℕ) (x : Selector) → IsSelector v x → key_count x.head ≡ keys_counted v
    counted v x is = ap key_count (sym is.head) ∙ key_count-read v is.long

    same_from : (v : List ℕ) (x : Selector) → IsBytes v → IsSelector v x → key_count x.head ≡ length x.keys → written x ≡ v → CanonSelector v
    same_from v x w is f s =
        let t = typed v x w is in
        let front : fields_bytes selector_head x.head ≡ take 16 v =
        sym (take_at (fields_bytes selector_head x.head) (keys_bytes_of x) 16 (length-fields_bytes selector_head x.head t.0)) ∙ ap (take 16) s in
        let len : length (take 16 v) ≡ 16 = length-take-le 16 v is.long in
        let total : length v ≡ 16 + 16 * length x.keys = ap length (sym s) ∙ length-written x t in
        let as_counted : length x.keys ≡ keys_counted v = sym f ∙ counted v x is in (
          (len, (same-fields selector_head (take 16 v) (IsBytes-take 16 v w) len).0 (ap (fields_bytes selector_head) (same_head v x is) ∙ front)),
          total ∙ ap (λ (n : ℕ). 16 + 16 * n) as_counted,
        )

    same_to : (v : List ℕ) (x : Selector) → IsBytes v → IsSelector v x → CanonSelector v → written x ≡ v
    same_to v x w is c =
        let front : fields_bytes selector_head x.head ≡ take 16 v =
        ap (fields_bytes selector_head) (sym (same_head v x is)) ∙ (same-fields selector_head (take 16 v) (IsBytes-take 16 v w) c.0.0).1 c.0.1 in
        let total : length v ≡ 16 + 16 * key_count x.head = c.1 ∙ ap (λ (n : ℕ). 16 + 16 * n) (sym (counted v x is)) in
        let rest : keys_bytes_of x ≡ drop 16 v =
        ap (flat_map (fields_bytes selector_key)) (sym is.keys)
        ∙ same-keys (key_count x.head) (drop 16 v) (IsBytes-drop 16 v w) (length-drop 16 v ∙ after (length v) (key_count x.head) total) in
        ap₂ (λ (a b : List ℕ). a ++ b) front rest ∙ take-append-drop 16 v
      where
        after : (len n : ℕ) → len ≡ 16 + 16 * n → len - 16 ≡ 16 * n
        after len n e = omega arith

    reads : (v : List ℕ) → CanonSelector v → (x : Selector) × (read_selector v ≡ Ok x) × (key_count x.head ≡ length x.keys)
    reads v c =
        let long : 16 ≤ length v = omega (arith, c.1) in
        let head = read_fields selector_head v in
        let x : Selector = record { head = head; keys = read_keys (key_count head) (drop 16 v) } in
        let count = key_count-read v long in (
          x,
          read_selector-is v x (record { long = long; keys_long = enough (length v) (key_count head) (keys_counted v) c.1 count; head = refl; keys = refl }),
          sym (length-read_keys (key_count head) (drop 16 v)),
        )
      where
        enough : (len n m : ℕ) → len ≡ 16 + 16 * m → n ≡ m → 16 + 16 * n ≤ len
        enough len n m e d = omega arith

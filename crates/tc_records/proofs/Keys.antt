-- Reading and writing the keys of a selector in loops.
use Rattle.std.proofs.Common.{◌≡◌, ℕ, suc, ◌+◌, ◌-◌, ◌*◌, ◌<◌, ◌≤◌, List, [], ◌∷◌, ◌++◌, length, map, take, drop, slice_index_or}
use Rattle.std.proofs.Common.{refl, sym, ◌∙◌, ap, subst, arith, append_assoc}
use Rattle.std.proofs.lemmas.List.{map_push, length-take, take_all, append-nil}
use Rattle.std.proofs.lemmas.Grind.{take_at_read}
use Rattle.std.specs.List.{AllByRecursion}
use Rattle.nla_frames.specs.Emission.{Writes, HasRoom}
use Rattle.nla_frames.proofs.Writing.{front_and_back}
use Rattle.tc_canon.specs.Layouts.{selector_key}
use Rattle.tc_meaning.specs.Tree.{Scalar}
use Rattle.tc_meaning.specs.Layout.{read_fields, fields_bytes, TypedFields}
use Rattle.tc_meaning.specs.Content.{read_keys}
use Rattle.tc_records.specs.declared.filters.u32_selector.TcU32Key.{TcU32Key}
use Rattle.tc_records.specs.Selector.{key_scalars, keys_bytes}
use borrow.Rule.Slice.PartMut.{put_mid}

-- ---- reading

-- no key is read yet
pub no_keys_read : (n : ℕ) (bytes : List ℕ) → read_keys (n - 0) bytes ≡ read_keys n bytes
no_keys_read n bytes =
    let counted : n - 0 ≡ n = omega arith in
    ap (λ m. read_keys m bytes) counted

-- one key more is read
pub one_key_more : (n i : ℕ) (left : List ℕ) (keys : List TcU32Key) (key : TcU32Key) (all : List (List Scalar)) → i < n
    → map key_scalars keys ++ read_keys (n - i) left ≡ all → key_scalars key ≡ read_fields selector_key left
    → map key_scalars (keys ++ key ∷ []) ++ read_keys (n - (i + 1)) (drop 16 left) ≡ all
one_key_more n i left keys key all within so_far is =
    let others = read_keys (n - (i + 1)) (drop 16 left) in
    let counted : n - i ≡ suc (n - (i + 1)) = omega arith in
    let first : read_keys (n - i) left ≡ key_scalars key ∷ others = ap (λ m. read_keys m left) counted ∙ ap (λ x. x ∷ others) (sym is) in
    let moved : map key_scalars (keys ++ key ∷ []) ++ others ≡ map key_scalars keys ++ key_scalars key ∷ others =
    rw map_push (append_assoc (map key_scalars keys) (key_scalars key ∷ []) others) in
    moved ∙ ap (λ xs. map key_scalars keys ++ xs) (sym first) ∙ so_far

-- all keys are read
pub all_keys_read : (n i : ℕ) (left : List ℕ) (keys : List (List Scalar)) (all : List (List Scalar)) → n ≤ i → keys ++ read_keys (n - i) left ≡ all → all ≡ keys
all_keys_read n i left keys all past so_far =
    let counted : n - i ≡ 0 = omega arith in
    let none : read_keys (n - i) left ≡ [] = ap (λ m. read_keys m left) counted in
    sym so_far ∙ ap (λ xs. keys ++ xs) none ∙ append-nil keys

-- ---- writing

-- a key has 16 bytes
pub length-keys : (keys : List TcU32Key) → length (keys_bytes (map key_scalars keys)) ≡ 16 * length keys
length-keys [] = refl
length-keys (key ∷ keys) = omega (arith, length-keys keys)

-- the bytes of the keys before an index
unfoldable pub bytes_before : List TcU32Key → ℕ → List ℕ
bytes_before keys i = keys_bytes (map key_scalars (take i keys))

pub nothing_before : (keys : List TcU32Key) → bytes_before keys 0 ≡ []
unfolding bytes_before
nothing_before keys = refl

pub all_before : (keys : List TcU32Key) (i : ℕ) → length keys ≤ i → bytes_before keys i ≡ keys_bytes (map key_scalars keys)
unfolding bytes_before
all_before keys i past = ap (λ ks. keys_bytes (map key_scalars ks)) (take_all i keys past)

pub length-before : (keys : List TcU32Key) (i : ℕ) → i ≤ length keys → length (bytes_before keys i) ≡ 16 * i
unfolding bytes_before
length-before keys i within = omega (arith, length-keys (take i keys), length-take i keys)

keys_bytes-append : (xs ys : List (List Scalar)) → keys_bytes (xs ++ ys) ≡ keys_bytes xs ++ keys_bytes ys
keys_bytes-append [] ys = refl
keys_bytes-append (x ∷ xs) ys =
    let first = fields_bytes selector_key x in
    ap (λ bytes. first ++ bytes) (keys_bytes-append xs ys) ∙ sym (append_assoc first (keys_bytes xs) (keys_bytes ys))

-- a key's bytes follow those before it
pub next_before : (keys : List TcU32Key) (i : ℕ) (d : TcU32Key) → i < length keys
    → bytes_before keys (i + 1) ≡ bytes_before keys i ++ fields_bytes selector_key (key_scalars (slice_index_or keys i d))
unfolding bytes_before
next_before keys i d within =
    let key = slice_index_or keys i d in
    let before = map key_scalars (take i keys) in
    rw ((take_at_read keys i d within).1, map_push)
    (keys_bytes-append before (key_scalars key ∷ [])
    ∙ ap (λ bytes. keys_bytes before ++ bytes) (append-nil (fields_bytes selector_key (key_scalars key))))

-- and the loop writes them there
pub next_written : (keys : List TcU32Key) (i : ℕ) (d : TcU32Key) (old now after : List ℕ) (at : ℕ) → i < length keys → at ≡ 16 * i
    → HasRoom (keys_bytes (map key_scalars keys)) old → Writes (bytes_before keys i) old now
    → Writes (fields_bytes selector_key (key_scalars (slice_index_or keys i d))) (take (length now - at) (drop at now)) after
    → Writes (bytes_before keys (i + 1)) old (put_mid at (length now - at) now after)
next_written keys i d old now after at within is_at room written_before written_next =
    let before = length-before keys i (omega arith) in
    subst (λ bytes. Writes bytes old (put_mid at (length now - at) now after)) (sym (next_before keys i d within))
    (front_and_back (bytes_before keys i) (fields_bytes selector_key (key_scalars (slice_index_or keys i d))) old now after at
    (omega (arith, before)) (omega (arith, before, length-keys keys)) written_before written_next)

-- ---- ranges of the fields of keys

-- the keys before an index are typed
unfoldable pub TypedBefore : List TcU32Key → ℕ → Type 0
TypedBefore keys i = AllByRecursion (TypedFields selector_key) (map key_scalars (take i keys))

pub none_typed : (keys : List TcU32Key) → TypedBefore keys 0
unfolding TypedBefore
none_typed keys = tt

all_and_one : (xs : List (List Scalar)) (x : List Scalar) → AllByRecursion (TypedFields selector_key) xs → TypedFields selector_key x
    → AllByRecursion (TypedFields selector_key) (xs ++ x ∷ [])
all_and_one [] x each typed = (typed, tt)
all_and_one (y ∷ ys) x each typed = (each.0, all_and_one ys x each.1 typed)

pub next_typed : (keys : List TcU32Key) (i : ℕ) (d : TcU32Key) → i < length keys → TypedBefore keys i
    → TypedFields selector_key (key_scalars (slice_index_or keys i d)) → TypedBefore keys (i + 1)
unfolding TypedBefore
next_typed keys i d within before typed =
    rw ((take_at_read keys i d within).1, map_push) (all_and_one (map key_scalars (take i keys)) (key_scalars (slice_index_or keys i d)) before typed)

pub all_typed : (keys : List TcU32Key) (i : ℕ) → length keys ≤ i → TypedBefore keys i → AllByRecursion (TypedFields selector_key) (map key_scalars keys)
unfolding TypedBefore
all_typed keys i past before = subst (λ ks. AllByRecursion (TypedFields selector_key) (map key_scalars ks)) (take_all i keys past) before

-- What a text is decoded to is bytes that can be counted.
use Rattle.std.proofs.Common.{◌≡◌, ℕ, zero, suc, ◌+◌, ◌-◌, ◌*◌, ◌<◌, ◌≤◌, ◌%◌}
use Rattle.std.proofs.Common.{List, [], ◌∷◌, length, Bool, true, false, Option, Some, None, Result, Ok, Err, not, refl, subst, arith}
use Rattle.std.proofs.lemmas.Bool.{and_parts, leb-true}
use Rattle.std.proofs.lemmas.List.Filters.{length-filter_both}
use Rattle.std.specs.Prelude.{nat_le, ◌&&◌, ◌==◌, if◌then◌else◌}
use Rattle.hex.specs.Hex.{IsBytes, hex_digit_value, digit_or_error, value_at, pair_value, decode_pairs, decode_of, ◌>>=◌}
use Rattle.hex.specs.declared.error.FromHexError.{FromHexError}
use Rattle.hex.specs.declared.error.FromHexError.TheVariants.{OddLength}
use Rattle.nla_frames.specs.Codec.{IsWireBytes}
use Rattle.tcrewrite_lib.specs.Text.{most_text, is_space, without_spaces}

IsBytes-nil : IsBytes []
IsBytes-nil i = omega arith

-- one byte more in front
IsBytes-cons : (b : ℕ) (bytes : List ℕ) → b < 256 → IsBytes bytes → IsBytes (b ∷ bytes)
IsBytes-cons b bytes below rest zero = below
IsBytes-cons b bytes below rest (suc i) = rest i

-- a digit is below 16
digit_below : (c v : ℕ) → hex_digit_value c ≡ Some v → v < 16
digit_below c v = go (nat_le 65 c && nat_le c 70) refl (nat_le 97 c && nat_le c 102) refl (nat_le 48 c && nat_le c 57) refl
  where
    go : (upper : Bool) → (nat_le 65 c && nat_le c 70) ≡ upper → (lower : Bool) → (nat_le 97 c && nat_le c 102) ≡ lower → (figure : Bool)
        → (nat_le 48 c && nat_le c 57) ≡ figure
        → (if upper then Some (c - 55) else if lower then Some (c - 87) else if figure then Some (c - 48) else None) ≡ Some v → v < 16
    go true u lower l figure f is = let e : c - 55 ≡ v = cc in omega (arith, leb-true c 70 (and_parts _ _ u).1)
    go false u true l figure f is = let e : c - 87 ≡ v = cc in omega (arith, leb-true c 102 (and_parts _ _ l).1)
    go false u false l true f is = let e : c - 48 ≡ v = cc in omega (arith, leb-true c 57 (and_parts _ _ f).1)
    go false u false l false f is = absurd cc

value_below : (c i v : ℕ) → value_at c i ≡ Ok v → v < 16
value_below c i v = go (hex_digit_value c) refl
  where
    go : (digit : Option ℕ) → hex_digit_value c ≡ digit → digit_or_error c i digit ≡ Ok v → v < 16
    go None is ok = absurd cc
    go (Some w) is ok = let e : hex_digit_value c ≡ Some v = cc in digit_below c v e

-- the outcome of digits and of what is made of them
abbrev Decoded : Type 0 → Type 0
Decoded X = Result X FromHexError

pair_below : (high low i b : ℕ) → pair_value high low i ≡ Ok b → b < 256
pair_below high low i b = go (value_at high i) refl (value_at low (i + 1)) refl
  where
    go : (h : Decoded ℕ) → value_at high i ≡ h → (l : Decoded ℕ) → value_at low (i + 1) ≡ l → (h >>= λ x. l >>= λ y. Ok (x * 16 + y)) ≡ Ok b → b < 256
    go (Err e) h-is l l-is is = absurd cc
    go (Ok x) h-is (Err e) l-is is = absurd cc
    go (Ok x) h-is (Ok y) l-is is = let e : x * 16 + y ≡ b = cc in omega (arith, value_below high i x h-is, value_below low (i + 1) y l-is)

-- bytes, and no more than so many
abbrev BytesUpTo : ℕ → List ℕ → Type 0
BytesUpTo most bytes = IsBytes bytes × (length bytes ≤ most)

pairs_within : (i : ℕ) (text bytes : List ℕ) → decode_pairs i text ≡ Ok bytes → BytesUpTo (length text) bytes
unfolding decode_pairs
pairs_within i [] bytes is = let e : [] ≡ bytes = cc in subst (BytesUpTo 0) e (IsBytes-nil, omega arith)
pairs_within i (digit ∷ []) bytes is = absurd cc
pairs_within i (high ∷ low ∷ rest) bytes is = go (pairs_within (i + 2) rest) (pair_value high low i) refl (decode_pairs (i + 2) rest) refl is
  where
    go : ((bs : List ℕ) → decode_pairs (i + 2) rest ≡ Ok bs → BytesUpTo (length rest) bs)
        → (b : Decoded ℕ) → pair_value high low i ≡ b → (bs : Decoded (List ℕ)) → decode_pairs (i + 2) rest ≡ bs
        → (b >>= λ x. bs >>= λ xs. Ok (x ∷ xs)) ≡ Ok bytes → BytesUpTo (length (high ∷ low ∷ rest)) bytes
    go later (Err e) b-is bs bs-is is = absurd cc
    go later (Ok x) b-is (Err e) bs-is is = absurd cc
    go later (Ok x) b-is (Ok xs) bs-is is =
        let e : x ∷ xs ≡ bytes = cc in
        let most = later xs bs-is in
        subst (BytesUpTo (length (high ∷ low ∷ rest))) e (IsBytes-cons x xs (pair_below high low i x b-is) most.0, omega (arith, most.1))

decode_of_within : (text bytes : List ℕ) → decode_of text ≡ Ok bytes → BytesUpTo (length text) bytes
decode_of_within text bytes = go (length text % 2 == 1)
  where
    go : (odd : Bool) → (if odd then Err OddLength else decode_pairs 0 text) ≡ Ok bytes → BytesUpTo (length text) bytes
    go true is = absurd cc
    go false is = pairs_within 0 text bytes is

-- what is decoded of a text that isn't too long is bytes that can be counted
pub wire_decoded : (text bytes : List ℕ) → length text ≤ most_text → decode_of (without_spaces text) ≡ Ok bytes → IsWireBytes bytes
wire_decoded text bytes short is =
    let within = decode_of_within (without_spaces text) bytes is in
    let shorter = length-filter_both (λ c. not (is_space c)) (λ c. not (not (is_space c))) (λ c. refl) text in
    record { are_bytes = record { each = within.0 }; long = omega (arith, within.1, shorter, short) }

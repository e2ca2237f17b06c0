-- Hex texts are those of the kit's `hex`, and each belongs to one list of bytes.
use Rattle.std.proofs.Common.{◌≡◌, ℕ, zero, suc, ◌+◌, ◌*◌, ◌-◌, ◌/◌, ◌%◌, ◌<◌, ◌≤◌, ◌==◌, Bool, true, false, ◌&&◌, List, [], ◌∷◌, length, slice_index, Ok, Err, refl, sym, ap, ◌∙◌, arith, inl, inr, true≢false}
use Rattle.std.specs.Prelude.{nat_le, ◌||◌}
use Rattle.std.specs.List.{AllPass}
use Rattle.std.specs.Char.{digit_char}
use Rattle.std.proofs.lemmas.Bool.{and_parts, cases_lt, eqb-true}
use Rattle.std.proofs.lemmas.Bool.Decides.{nat_tests}
use Rattle.std.proofs.lemmas.List.Elements.{All-head, All-tail}
use Rattle.hex.specs.Hex.{IsBytes, decode_of, decode_sized, encode_lower, encode_with, is_hex_digit, lower_digits}
use Rattle.hex.specs.declared.error.FromHexError.{FromHexError}
use Rattle.hex.proofs.HexLemmas.{decode_of-encode_lower, decode_sized-encode_lower, decode_of-ok, decode_of-same}
use Rattle.tc_texts.specs.Hex.{hex_text, has_capital}
use Rattle.tc_texts.specs.Reading.{IsNoHex}

-- one entry of the kit's table of digits is right
abbrev is_digit_of : ℕ → Bool
is_digit_of d = slice_index lower_digits d == digit_char d

-- the first n entries are right
abbrev are_digits : ℕ → Bool
are_digits zero = true
are_digits (suc n) = is_digit_of n && are_digits n

are_digits-at : (n k : ℕ) → are_digits n ≡ true → k < n → slice_index lower_digits k ≡ digit_char k
are_digits-at zero k h lt = absurd (omega arith)
are_digits-at (suc n) k h lt =
    let parts = and_parts (is_digit_of n) (are_digits n) h in
    elim (cases_lt k n) [
      | inl below ↦ are_digits-at n k parts.1 below
      | inr top ↦
          let e : k ≡ n = omega arith in
          rw e (eqb-true (slice_index lower_digits n) (digit_char n) parts.0)
    ]

lower_digit : (d : ℕ) → d < 16 → slice_index lower_digits d ≡ digit_char d
lower_digit d lt = are_digits-at 16 d refl lt

pub encode_lower-hex_text : (xs : List ℕ) → IsBytes xs → encode_lower xs ≡ hex_text xs
unfolding encode_with
encode_lower-hex_text [] h = refl
encode_lower-hex_text (b ∷ rest) h =
    let fits : b < 256 = h 0 in
    let high = lower_digit (b / 16) (omega arith) in
    let low = lower_digit (b % 16) (omega arith) in
    let later = encode_lower-hex_text rest (λ k. h (suc k)) in
    rw (high, low, later) refl

pub decode_of-hex_text : (xs : List ℕ) → IsBytes xs → decode_of (hex_text xs) ≡ Ok xs
decode_of-hex_text xs h = ap decode_of (sym (encode_lower-hex_text xs h)) ∙ decode_of-encode_lower xs h

pub decode_sized-hex_text : (xs : List ℕ) (n : ℕ) → length xs ≡ n → IsBytes xs → decode_sized (hex_text xs) n ≡ Ok xs
decode_sized-hex_text xs n len h =
    ap (λ (t : List ℕ). decode_sized t n) (sym (encode_lower-hex_text xs h)) ∙ decode_sized-encode_lower xs n len h

pub hex_text-injective : (a b : List ℕ) → IsBytes a → IsBytes b → hex_text a ≡ hex_text b → a ≡ b
hex_text-injective a b ha hb e =
    decode_of-same (hex_text a) a b (decode_of-hex_text a ha) (ap decode_of e ∙ decode_of-hex_text b hb)

-- ---- parsing

small_digit : (d : ℕ) → d < 16 → (nat_le 65 (digit_char d) && nat_le (digit_char d) 70) ≡ false
small_digit d h = grind (arith, nat_tests)

pub has_capital-hex_text : (xs : List ℕ) → IsBytes xs → has_capital (hex_text xs) ≡ false
has_capital-hex_text [] h = refl
has_capital-hex_text (b ∷ rest) h =
    let fits : b < 256 = h 0 in
    let high = small_digit (b / 16) (omega arith) in
    let low = small_digit (b % 16) (omega arith) in
    let later = has_capital-hex_text rest (λ k. h (suc k)) in
    rw (high, low, later) refl

IsBytes-cons : (b : ℕ) (rest : List ℕ) → b < 256 → IsBytes rest → IsBytes (b ∷ rest)
IsBytes-cons b rest h hs zero = h
IsBytes-cons b rest h hs (suc i) = hs i

or_false : (x y : Bool) → (x || y) ≡ false → (x ≡ false) × (y ≡ false)
or_false true y h = absurd (true≢false h)
or_false false y h = (refl, h)

lower_digit_of : (c : ℕ) → is_hex_digit c ≡ true → (nat_le 65 c && nat_le c 70) ≡ false → (d : ℕ) × (d < 16) × (c ≡ digit_char d)
lower_digit_of c h low =
    elim (cases_lt c 58) [
      | inl number ↦
          let least : 48 ≤ c = grind (arith, nat_tests, h) in
          (c - 48, omega arith, grind (arith, nat_tests))
      | inr letter ↦
          let range : (97 ≤ c) × (c ≤ 102) = (grind (arith, nat_tests, h, low), grind (arith, nat_tests, h, low)) in
          (c - 87, omega arith, grind (arith, nat_tests))
    ]

-- an even number of lower-case digits is the text of some bytes
lower_pairs : (s : List ℕ) → length s % 2 ≡ 0 → AllPass is_hex_digit s → has_capital s ≡ false → (xs : List ℕ) × IsBytes xs × (s ≡ hex_text xs)
lower_pairs [] even h low = ([], λ k. omega arith, refl)
lower_pairs (a ∷ []) even h low = absurd (omega arith)
lower_pairs (a ∷ b ∷ rest) even h low =
    let after = All-tail (λ (c : ℕ). is_hex_digit c ≡ true) a (b ∷ rest) h in
    let la = or_false (nat_le 65 a && nat_le a 70) (has_capital (b ∷ rest)) low in
    let lb = or_false (nat_le 65 b && nat_le b 70) (has_capital rest) la.1 in
    let da = lower_digit_of a (All-head (λ (c : ℕ). is_hex_digit c ≡ true) a (b ∷ rest) h) la.0 in
    let db = lower_digit_of b (All-head (λ (c : ℕ). is_hex_digit c ≡ true) b rest after) lb.0 in
    let later = lower_pairs rest (omega arith) (All-tail (λ (c : ℕ). is_hex_digit c ≡ true) b rest after) lb.1 in
    let high : (da.0 * 16 + db.0) / 16 ≡ da.0 = omega (arith, da.1, db.1) in
    let low_digit : (da.0 * 16 + db.0) % 16 ≡ db.0 = omega (arith, da.1, db.1) in (
      (da.0 * 16 + db.0) ∷ later.0,
      IsBytes-cons (da.0 * 16 + db.0) later.0 (omega (arith, da.1, db.1)) later.1,
      rw (high, low_digit, ← da.2, ← db.2, ← later.2) refl,
    )

-- a text that decodes and has no capital letter is the text of the decoded bytes
pub hex_text-decoded : (s bytes : List ℕ) → decode_of s ≡ Ok bytes → has_capital s ≡ false → s ≡ hex_text bytes
hex_text-decoded s bytes e low =
    let ok = decode_of-ok s bytes e in
    let pairs = lower_pairs s ok.0 ok.1 low in
    let same = decode_of-same s bytes pairs.0 e (ap decode_of pairs.2 ∙ decode_of-hex_text pairs.0 pairs.1) in
    pairs.2 ∙ ap hex_text (sym same)

-- a text that doesn't decode isn't the text of any bytes
pub not_hex : (s : List ℕ) (e : FromHexError) → decode_of s ≡ Err e → IsNoHex s
not_hex s e h bytes typed same = cc (sym h ∙ ap decode_of same ∙ decode_of-hex_text bytes typed)

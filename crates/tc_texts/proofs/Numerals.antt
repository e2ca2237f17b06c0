-- 16-bit numbers in hex: their number of digits, and the value of their digits.
use Rattle.std.proofs.Common.{◌≡◌, ℕ, ◌/◌, ◌%◌, ◌^◌, ◌<◌, ◌≤◌, Bool, true, false, ◌&&◌, zero, suc, List, [], ◌∷◌, length, take, get_or, refl, arith, inl, inr, lit≤, le-ltb, length-take-le}
use Rattle.std.proofs.lemmas.Bool.{cases_lt, le-leb, lt-leb}
use Rattle.std.proofs.lemmas.Bool.Decides.{nat_tests}
use Rattle.std.proofs.lemmas.Int.Digits.{digits_value-lt}
use Rattle.std.proofs.Math.Nat.{pow-le-pow_right}
use Rattle.std.specs.List.{list_all}
use Rattle.std.specs.Char.{digit_value, digit_char, is_digit}
use Rattle.std.specs.Str.Parse.{AllDigits, digits_value}
use Rattle.std.specs.Net.Text.{hex}

pub hex_4 : (n : ℕ) → 0x1000 ≤ n → hex n ≡ digit_char (n / 0x1000) ∷ digit_char (n / 0x100 % 16) ∷ digit_char (n / 0x10 % 16) ∷ digit_char (n % 16) ∷ []
unfolding hex
hex_4 n h = rw (le-leb 0x1000 n h) refl

pub hex_3 : (n : ℕ) → 0x100 ≤ n → n < 0x1000 → hex n ≡ digit_char (n / 0x100 % 16) ∷ digit_char (n / 0x10 % 16) ∷ digit_char (n % 16) ∷ []
unfolding hex
hex_3 n h h₄ = rw (lt-leb 0x1000 n h₄, le-leb 0x100 n h) refl

pub hex_2 : (n : ℕ) → 0x10 ≤ n → n < 0x100 → hex n ≡ digit_char (n / 0x10 % 16) ∷ digit_char (n % 16) ∷ []
unfolding hex
hex_2 n h h₃ =
    let h₄ : n < 0x1000 = omega arith in
    rw (lt-leb 0x1000 n h₄, lt-leb 0x100 n h₃, le-leb 0x10 n h) refl

pub hex_1 : (n : ℕ) → n < 0x10 → hex n ≡ digit_char (n % 16) ∷ []
unfolding hex
hex_1 n h₂ =
    let h₄ : n < 0x1000 = omega arith in
    let h₃ : n < 0x100 = omega arith in
    rw (lt-leb 0x1000 n h₄, lt-leb 0x100 n h₃, lt-leb 0x10 n h₂) refl

pub digit_value-digit_char : (d : ℕ) → d < 16 → digit_value (digit_char d) ≡ d
digit_value-digit_char d h = grind (arith, nat_tests)

-- up to four digits with the value n
pub record IsHexOf (text : List ℕ) (n : ℕ) : Type 0 where
  pub digits : AllDigits 16 text
  pub value : digits_value 16 text ≡ n
  pub short : length text ≤ 4

pub IsHexOf-hex : (n : ℕ) → n < 2 ^ 16 → IsHexOf (hex n) n
IsHexOf-hex n fits =
    let a = digit_value-digit_char (n / 0x1000) (omega arith) in
    let b = digit_value-digit_char (n / 0x100 % 16) (omega arith) in
    let c = digit_value-digit_char (n / 0x10 % 16) (omega arith) in
    let d = digit_value-digit_char (n % 16) (omega arith) in
    elim (cases_lt n 0x1000) [
      | inr four ↦ rw (hex_4 n four) (record { digits = omega arith; value = omega arith; short = omega arith })
      | inl h₄ ↦ elim (cases_lt n 0x100) [
        | inr three ↦ rw (hex_3 n three h₄) (record { digits = omega arith; value = omega arith; short = omega arith })
        | inl h₃ ↦ elim (cases_lt n 0x10) [
          | inr two ↦ rw (hex_2 n two h₃) (record { digits = omega arith; value = omega arith; short = omega arith })
          | inl h₂ ↦ rw (hex_1 n h₂) (record { digits = omega arith; value = omega arith; short = omega arith })
        ]
      ]
    ]

-- the value of up to three digits, before one more
pub short_number : (xs : List ℕ) (i : ℕ) → i < 4 → i ≤ length xs → AllDigits 16 (take i xs) → digits_value 16 (take i xs) < 0x1000
short_number xs i few within h =
    let below = digits_value-lt 16 (take i xs) h in
    let len : length (take i xs) ≤ 3 = omega (arith, length-take-le i xs within) in
    let most : 16 ^ length (take i xs) ≤ 16 ^ 3 = pow-le-pow_right (lit≤ tt) len in
    omega (arith, below, most)

and_false : (b : Bool) → (b && false) ≡ false
and_false true = refl
and_false false = refl

-- a byte that isn't a digit
pub list_all-other : (xs : List ℕ) (i : ℕ) → i < length xs → 16 ≤ digit_value (get_or xs i 0) → list_all (λ c. is_digit c 16) xs ≡ false
list_all-other [] i lt h = absurd (omega arith)
list_all-other (x ∷ xs) zero lt h = rw (le-ltb (digit_value x) 16 h) refl
list_all-other (x ∷ xs) (suc i) lt h = rw (list_all-other xs i (omega arith) h) (and_false (is_digit x 16))

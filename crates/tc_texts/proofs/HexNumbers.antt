-- One more digit of a number in hex.
use Rattle.std.proofs.Common.{◌≡◌, ℕ, suc, ◌≤◌, ◌/◌, ◌%◌, false, nat_lt, [], ◌∷◌, ◌++◌, ap, arith, subst, sym}
use Rattle.std.specs.Char.{digit_char}
use Rattle.std.specs.Prelude.{if◌then◌else◌}
use Rattle.tc_texts.specs.Hex.{hex_in}

is-not-less : (n : ℕ) → 16 ≤ n → nat_lt n 16 ≡ false
is-not-less n h = grind arith

more : (k n : ℕ) → 16 ≤ n → hex_in (suc k) n ≡ hex_in k (n / 16) ++ digit_char (n % 16) ∷ []
more k n big = ap (λ b. if b then digit_char n ∷ [] else hex_in k (n / 16) ++ digit_char (n % 16) ∷ []) (is-not-less n big)

pub hex-more : (left k n : ℕ) → left ≡ suc k → 16 ≤ n → hex_in left n ≡ hex_in k (n / 16) ++ digit_char (n % 16) ∷ []
hex-more left k n e big = subst (λ l. hex_in l n ≡ hex_in k (n / 16) ++ digit_char (n % 16) ∷ []) (sym e) (more k n big)

-- Written numbers are read.
use Rattle.std.proofs.Common.{◌≡◌, ℕ, zero, suc, ◌+◌, ◌*◌, ◌/◌, ◌%◌, ◌^◌, ◌<◌, List, [], ◌∷◌, ◌++◌, Bool, true, false, refl, ap, ◌∙◌, arith}
use Rattle.std.specs.Prelude.{◌&&◌, ◌==◌, slice_index}
use Rattle.std.proofs.lemmas.Bool.{eqb-true}
use Rattle.byteorder.specs.Endian.{little_from, little_number}
use Rattle.byteorder.specs.Numbers.{big_number-reads_back, little_number-reads_back}
use Rattle.tc_capture.specs.declared.order.Order.{Order}
use Rattle.tc_capture.specs.declared.order.Order.TheVariants.{Little, Big}
use Rattle.tc_capture.specs.declared.time.Time.{Time}
use Rattle.tc_capture.specs.Order.{number}
use Rattle.tc_capture.specs.Time.{time_of}
use Rattle.tc_capture.specs.Messages.{are_zeros}
use Rattle.tc_capture_laws.specs.Files.{number_bytes}

pub number-number_bytes : (order : Order) (n x : ℕ) (rest : List ℕ) → x < 256 ^ n → number order n (number_bytes order n x ++ rest) ≡ x
number-number_bytes Little n x rest fits = little_number-reads_back n x rest fits
number-number_bytes Big n x rest fits = big_number-reads_back n x rest fits

-- seconds and nanoseconds
pub time_of-nanoseconds : (time : Time) → time.nanoseconds < 10 ^ 9 → time_of (time.seconds * 1000000000 + time.nanoseconds) 1000000000 ≡ time
time_of-nanoseconds time fits =
    let ticks = time.seconds * 1000000000 + time.nanoseconds in
    let seconds : ticks / 1000000000 ≡ time.seconds = omega arith in
    let part : ticks % 1000000000 ≡ time.nanoseconds = omega arith in
    let back : time.nanoseconds * 1000000000 / 1000000000 ≡ time.nanoseconds = omega arith in
    let same : Time = record { seconds = time.seconds; nanoseconds = time.nanoseconds } in
    ap (λ (s : ℕ). record { seconds = s; nanoseconds = ticks % 1000000000 * 1000000000 / 1000000000 }) seconds
    ∙ ap (λ (p : ℕ). record { seconds = time.seconds; nanoseconds = p * 1000000000 / 1000000000 }) part
    ∙ ap (λ (p : ℕ). record { seconds = time.seconds; nanoseconds = p }) back

-- zeros are the number 0

both : (a b : Bool) → (a && b) ≡ true → (a ≡ true) × (b ≡ true)
both true b e = (refl, e)
both false b e = absurd cc

zero_at : (xs : List ℕ) (i : ℕ) → are_zeros xs ≡ true → slice_index xs i ≡ 0
zero_at [] i all = refl
zero_at (b ∷ xs) zero all = eqb-true b 0 (both (b == 0) (are_zeros xs) all).0
zero_at (b ∷ xs) (suc i) all = zero_at xs i (both (b == 0) (are_zeros xs) all).1

zero_from : (n i : ℕ) (xs : List ℕ) → are_zeros xs ≡ true → little_from i n xs ≡ 0
zero_from zero i xs all = refl
zero_from (suc n) i xs all =
    let first = zero_at xs i all in
    let others = zero_from n (suc i) xs all in
    omega (arith, first, others)

-- bytes whose number isn't 0 are no zeros
pub are_zeros-number : (xs : List ℕ) → 0 < little_number 4 xs → are_zeros xs ≡ false
are_zeros-number xs some = tests (are_zeros xs) refl
  where
    tests : (z : Bool) → are_zeros xs ≡ z → z ≡ false
    tests false is = refl
    tests true is = let none : little_number 4 xs ≡ 0 = zero_from 4 0 xs is in absurd (omega (arith, none))

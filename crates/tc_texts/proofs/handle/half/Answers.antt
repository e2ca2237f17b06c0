use Rattle.std.proofs.Common.{◌<◌, ◌≤◌, ℕ, List, length, take, get_or, sym, ap, ◌∙◌, subst, refl, arith, le-leb, length-take-le}
use Rattle.std.proofs.lemmas.List.{take_all}
use Rattle.std.proofs.lemmas.Bool.{lt-leb}
use Rattle.std.proofs.lemmas.Int.Digits.{digits_more, digits_value_more}
use Rattle.std.specs.Char.{digit_value}
use Rattle.tc_texts.specs.Handle.{half_of}
use Rattle.tc_texts.proofs.Handles.{half_of-IsHexOf}
use Rattle.tc_texts.proofs.Numerals.{IsHexOf, short_number, list_all-other}
use Rattle.tc_texts.proofs.handle.half.Goals as goal

pub returns-then-digits-gt4 : goal.returns-then-digits-gt4
unfolding half_of
returns-then-digits-gt4 c =
    let long : 4 < length c.args.text.now = omega arith in
    rw (lt-leb (length c.args.text.now) 4 long) refl

pub returns-in-None : goal.returns-in-None
unfolding half_of
returns-in-None c =
    let value = ap digit_value c.from.ensures in
    let bad : 16 ≤ digit_value (get_or c.as_bytes-digits.result.now c.loop-c.c-index 0) = omega (arith, value, c.in-None.ensures.value) in
    let other = list_all-other c.as_bytes-digits.result.now c.loop-c.c-index c.loop-c-test.true bad in
    rw (← c.as_bytes-digits.ensures.value, le-leb (length c.as_bytes-digits.result.now) 4 c.if-digits-gt4.false, other) refl

pub overflow_mul-number : goal.overflow_mul-number
overflow_mul-number c =
    let small = short_number c.as_bytes-digits.result.now c.loop-c.c-index (omega arith) (omega arith) c.loop-c.invariant.digits in
    record { fits = omega arith }

pub overflow_add-number : goal.overflow_add-number
overflow_add-number c =
    let small = short_number c.as_bytes-digits.result.now c.loop-c.c-index (omega arith) (omega arith) c.loop-c.invariant.digits in
    record { fits = omega (arith, c.in-Some.ensures.value) }

pub loop-c-preserved : goal.loop-c-preserved
loop-c-preserved c =
    let value = ap digit_value c.from.ensures in
    let more = digits_value_more 16 c.as_bytes-digits.result.now c.loop-c.c-index c.loop-c-test.true in
    let small : digit_value (get_or c.as_bytes-digits.result.now c.loop-c.c-index 0) < 16 = omega (arith, value, c.in-Some.ensures.value) in
    record {
      number = omega (arith, value, more, c.in-Some.ensures.value, c.loop-c.invariant.number);
      digits = digits_more 16 c.as_bytes-digits.result.now c.loop-c.c-index c.loop-c-test.true c.loop-c.invariant.digits small;
    }

pub returns : goal.returns
returns c =
    let all = take_all c.loop-c.c-index c.as_bytes-digits.result.now c.loop-c-test.false in
    let len = length-take-le c.loop-c.c-index c.as_bytes-digits.result.now c.loop-c.auto.c-index-end in
    let front : IsHexOf (take c.loop-c.c-index c.as_bytes-digits.result.now) c.loop-c.number = record {
      digits = c.loop-c.invariant.digits;
      value = sym c.loop-c.invariant.number;
      short = omega (arith, len);
    } in
    sym (half_of-IsHexOf c.args.text.now c.loop-c.number
    (subst (λ (t : List ℕ). IsHexOf t c.loop-c.number) (all ∙ c.as_bytes-digits.ensures.value) front))

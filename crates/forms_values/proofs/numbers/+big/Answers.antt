use Rattle.std.proofs.Common.{arith}
use Rattle.nla_frames.proofs.Bytes.{IsBytes-slice}
use Rattle.forms_values.proofs.Leaves.{big_small, front_bytes, last_byte}
use Rattle.forms_values.proofs.numbers.+big.Goals as goal

pub overflow_mul-result : goal.overflow_mul-result
overflow_mul-result t c =
    let small = big_small c.in-Some.others.now (front_bytes c.args.bytes.now c.in-Some.last.now c.in-Some.others.now
    (IsBytes-slice c.args.bytes.now c.type_inv.bytes) c.in-Some.ensures.cases.0)
    (omega (arith, c.in-Some.ensures.cases.1, c.requires)) in
    omega (arith, small, c.big.ensures)

pub overflow_add-result : goal.overflow_add-result
overflow_add-result t c =
    let bytes = IsBytes-slice c.args.bytes.now c.type_inv.bytes in
    let small = big_small c.in-Some.others.now (front_bytes c.args.bytes.now c.in-Some.last.now c.in-Some.others.now bytes c.in-Some.ensures.cases.0)
    (omega (arith, c.in-Some.ensures.cases.1, c.requires)) in
    let byte = last_byte c.args.bytes.now c.in-Some.last.now c.in-Some.others.now bytes c.in-Some.ensures.cases.0 in
    omega (arith, small, byte, c.big.ensures, c.from.ensures)

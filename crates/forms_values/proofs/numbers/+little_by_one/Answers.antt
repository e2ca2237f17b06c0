use Rattle.std.proofs.Common.{arith}
use Rattle.nla_frames.proofs.Bytes.{IsBytes-slice}
use Rattle.forms_values.proofs.Leaves.{little_small, tail_bytes, first_byte}
use Rattle.forms_values.proofs.numbers.+little_by_one.Goals as goal

pub overflow_mul-result : goal.overflow_mul-result
overflow_mul-result t c =
    let small = little_small c.in-Some.others.now (tail_bytes c.args.bytes.now c.in-Some.first.now c.in-Some.others.now
    (IsBytes-slice c.args.bytes.now c.type_inv.bytes) c.in-Some.ensures.cases.0)
    (omega (arith, c.in-Some.ensures.cases.1, c.requires)) in
    omega (arith, small, c.little_by_one.ensures)

pub overflow_add-result : goal.overflow_add-result
overflow_add-result t c =
    let bytes = IsBytes-slice c.args.bytes.now c.type_inv.bytes in
    let small = little_small c.in-Some.others.now (tail_bytes c.args.bytes.now c.in-Some.first.now c.in-Some.others.now bytes c.in-Some.ensures.cases.0)
    (omega (arith, c.in-Some.ensures.cases.1, c.requires)) in
    let byte = first_byte c.args.bytes.now c.in-Some.first.now c.in-Some.others.now bytes c.in-Some.ensures.cases.0 in
    omega (arith, small, byte, c.little_by_one.ensures, c.from.ensures)

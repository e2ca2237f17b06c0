use Rattle.std.proofs.Common.{◌+◌, ◌*◌, ◌/◌, arith, refl, length-drop}
use Rattle.tc_canon.proofs.Fronts.{first-within, no-front, no-room, splits, no-zeros, pad-of-whole, rest-of-whole}
use Rattle.tc_canon.proofs.front.split_padded.Goals as goal

pub returns-in-Err : goal.returns-in-Err
returns-in-Err c f after starts = no-front _ after f _ c.in-Err.ensures.exact starts

pub returns-then-bytes-end : goal.returns-then-bytes-end
returns-then-bytes-end c f after starts =
    let within = first-within _ _ c.in-Ok.ensures.exact in
    let left = length-drop c.length-length.result c.args.bytes.now in
    no-room _ _ _ _ c.in-Ok.ensures.exact c.length-length.ensures refl after f (omega (arith, within, left, c.length-length.ensures, c.if-bytes-end.true)) starts

pub returns-then-is_zero : goal.returns-then-is_zero
returns-then-is_zero c =
    let within = first-within _ _ c.in-Ok.ensures.exact in
    let left = length-drop c.length-length.result c.args.bytes.now in
    let pad = pad-of-whole _ _ _ _ _ c.split_at.ensures.front c.split_at-2.ensures.back (omega arith) in
    let rest = rest-of-whole _ _ c.length-length.result ((c.length-length.result + 3) / 4 * 4) c.split_at.ensures.back (omega arith) in
    splits _ _ _ _ c.in-Ok.ensures.exact c.length-length.ensures refl _ _ (λ k. omega (arith, c.type_inv.bytes k)) c.in-Ok.frame.short
    (omega (arith, within, left, c.length-length.ensures, c.if-bytes-end.false)) pad rest (c.if-is_zero.ensures.0 refl)

pub returns-else-is_zero : goal.returns-else-is_zero
returns-else-is_zero c f after starts =
    let pad = pad-of-whole _ _ _ _ _ c.split_at.ensures.front c.split_at-2.ensures.back (omega arith) in
    no-zeros _ _ _ _ c.in-Ok.ensures.exact c.length-length.ensures refl after _ f pad (λ z. let no = c.if-is_zero.ensures.1 z in cc) starts

use Rattle.std.proofs.Common.{◌≡◌, arith}
use Rattle.tc_canon.proofs.FlowerWidths.{width-decides, width-flags, other-decides}
use Rattle.tc_canon.proofs.flower.FlowerOptionsTable.is_canonical.Goals as goal

pub returns-then-is_plain-6 : goal.returns-then-is_plain-6
returns-then-is_plain-6 c = width-decides _ _ _ c.kind.ensures _ _ c.in-Some.ensures c.value-value.ensures.bytes c.if-is_plain-6.ensures

pub returns-else-is_plain-6 : goal.returns-else-is_plain-6
returns-else-is_plain-6 c = width-flags _ _ _ c.kind.ensures _ _ c.in-Some.ensures c.if-is_plain-6.false c.if-is_plain-6.ensures

pub returns-in-None : goal.returns-in-None
returns-in-None c =
    let n = c.kind.result in
    other-decides _ _ n c.kind.ensures
    (λ (e : n ≡ 2). omega arith)
    (λ (e : n ≡ 3). omega arith)
    (λ (e : n ≡ 68). omega arith)
    (λ (e : n ≡ 69). omega arith)
    (λ (e : n ≡ 70). omega arith)
    (λ (e : n ≡ 99). omega arith)
    c.in-None.ensures

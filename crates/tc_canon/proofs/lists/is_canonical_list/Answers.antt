use Rattle.std.proofs.Common.{◌≡◌, true, false, refl, arith}
use Rattle.nla_frames.specs.Reading.{keep}
use Rattle.tc_canon.proofs.PaddedLists.{front-shorter, list-goes_on, list-refuses, list-breaks, list-too_short}
use Rattle.tc_canon.proofs.lists.is_canonical_list.Goals as goal

pub returns-then-not-is_canonical : goal.returns-then-not-is_canonical
returns-then-not-is_canonical g c = (
  λ x. cc,
  λ w. absurd (list-refuses g.T.Table.Canon keep _ _ _ c.loop-rest.invariant _ _ c.in-Some.ensures
      (λ x. let no : false ≡ true = c.if-not-is_canonical.ensures.1 x in cc) w),
)

pub loop-rest-smaller : goal.loop-rest-smaller
loop-rest-smaller g c = front-shorter _ _ _ c.in-Some.ensures

pub loop-rest-preserved : goal.loop-rest-preserved
loop-rest-preserved g c = list-goes_on g.T.Table.Canon keep _ _ _ c.loop-rest.invariant _ _ c.in-Some.ensures (c.if-not-is_canonical.ensures.0 refl)

pub returns-in-None : goal.returns-in-None
returns-in-None g c = (
  λ x. cc,
  λ w. absurd (list-breaks g.T.Table.Canon keep _ _ _ c.loop-rest.invariant (omega arith) c.in-None.ensures w),
)

pub returns : goal.returns
returns g c = list-too_short g.T.Table.Canon keep _ _ _ c.loop-rest.invariant _ c.is_empty.ensures (omega arith)

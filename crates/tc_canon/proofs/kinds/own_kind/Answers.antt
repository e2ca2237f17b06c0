use Rattle.std.proofs.Common.{sym, ◌∙◌}
use Rattle.std.proofs.lemmas.Bool.{eqb-true}
use Rattle.std.proofs.lemmas.List.{nil_from_length}
use Rattle.nla_frames.proofs.Items.{some_bytes}
use Rattle.tc_canon.proofs.PaddedLists.{front-shorter}
use Rattle.tc_canon.proofs.OwnKind.{own-passes, own-found, own-twice, own-breaks, own-ends}
use Rattle.tc_canon.proofs.kinds.own_kind.Goals as goal

pub returns-then-is_some : goal.returns-then-is_some
returns-then-is_some c = own-twice _ c.loop-rest.own _ c.loop-rest.invariant _ _ c.in-Some.ensures _ c.kind.ensures c.if-is_some.ensures c.if-kind-eq1.true

pub loop-rest-smaller-else-is_some : goal.loop-rest-smaller-else-is_some
loop-rest-smaller-else-is_some c = front-shorter _ _ _ c.in-Some.ensures

pub loop-rest-preserved-else-is_some : goal.loop-rest-preserved-else-is_some
loop-rest-preserved-else-is_some c own =
    own-found _ c.loop-rest.own _ c.loop-rest.invariant _ _ c.in-Some.ensures _ c.kind.ensures _ _ c.if-is_some.ensures c.if-kind-eq1.true
    c.value.ensures.bytes c.strip_nul.ensures own

pub loop-rest-smaller : goal.loop-rest-smaller
loop-rest-smaller c = front-shorter _ _ _ c.in-Some.ensures

pub loop-rest-preserved : goal.loop-rest-preserved
loop-rest-preserved c own = own-passes _ c.loop-rest.own _ c.loop-rest.invariant _ _ c.in-Some.ensures _ c.kind.ensures c.if-kind-eq1.false own

pub returns-in-None : goal.returns-in-None
returns-in-None c = own-breaks _ c.loop-rest.own _ c.loop-rest.invariant (some_bytes _ _ c.is_empty.ensures c.loop-rest-test.true) c.in-None.ensures

pub returns : goal.returns
returns c = own-ends _ c.loop-rest.own _ c.loop-rest.invariant (nil_from_length _ (eqb-true _ _ (sym c.is_empty.ensures ∙ c.loop-rest-test.false)))

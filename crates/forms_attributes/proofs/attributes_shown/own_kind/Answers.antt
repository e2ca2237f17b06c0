use Rattle.std.proofs.Common.{length}
use Rattle.forms_attributes.proofs.OwnKinds.{own_end, own_here, own_later, none_wanted}
use Rattle.forms_attributes.proofs.attributes_shown.own_kind.Goals as goal

pub returns-in-None : goal.returns-in-None
returns-in-None c = own_end (length c.args.bytes.now) c.loop-count._count c.args.bytes.now c.loop-count.left.now c.loop-count.invariant c.in-None.ensures.frame

pub loop-count-preserved : goal.loop-count-preserved
loop-count-preserved c =
    own_later (length c.args.bytes.now) c.loop-count._count c.args.bytes.now c.loop-count.left.now c.loop-count.invariant _ _ c.loop-count-test.true
    c.in-Some.ensures.frame (none_wanted c.kind_in.result _ (λ t. t.now) c.in_default.not-Some c.kind_in.ensures) c.in-Some.ensures.after

pub returns-in-Some-kind_in : goal.returns-in-Some-kind_in
returns-in-Some-kind_in c =
    own_here (length c.args.bytes.now) c.loop-count._count c.args.bytes.now c.loop-count.left.now c.loop-count.invariant _ _ c.loop-count-test.true
    c.in-Some.ensures.frame
    c.in-Some-kind_in.ensures

use Rattle.nla_frames.proofs.OwnKinds.{settled_own}
use Rattle.nla_frames.proofs.settle.list_settled_own.Goals as goal

pub returns-in-One-clause-settled : goal.returns-in-One-clause-settled
returns-in-One-clause-settled g c =
    let m = g.T.FrameMeaning in
    let told = rw c.in-One.is at c.only_kind_set.ensures in
    settled_own m.see m.codec.Settled g.T.SetsKind.sets c.args.items.now _ _ told c.list_settled_under.ensures.settled

use Rattle.nla_frames.specs.Reading.{keep}
use Rattle.nla_frames.proofs.SettledSteps.{SettledSoFar}
use Rattle.nla_frames.proofs.settle.list_settled_under.Given as goal

-- each item so far is typed, and those left are settled exactly if all are
abbrev pub invariant-loop-item : goal.invariant-loop-item
invariant-loop-item g l =
    let m = g.T.FrameMeaning in
    SettledSoFar (λ y. m.codec.Typed (m.see y)) (λ k y. m.codec.Settled k (m.see y)) keep l.kind l.items l.kind l.item-index

use Rattle.std.proofs.Common.{[]}
use denote.Text.{Utf8}
use denote.Shadow.{shadow}
use Rattle.nla_frames.proofs.SettledSteps.{SettledSoFar}
use Rattle.nla_frames.proofs.settle.list_settled_carrying.Given as goal

-- each item so far is typed, and those left are settled from the kind set last exactly if all are from the first
abbrev pub invariant-loop-item : goal.invariant-loop-item
invariant-loop-item g l =
    let m = g.T.FrameMeaning in
    shadow (Utf8 l.in_force) × SettledSoFar (λ y. m.codec.Typed (m.see y))
    (λ k y. m.codec.Settled k (m.see y)) g.T.SetsKind.sets [] l.items l.in_force l.item-index

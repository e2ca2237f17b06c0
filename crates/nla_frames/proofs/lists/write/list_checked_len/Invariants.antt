use Rattle.std.proofs.Common.{◌≡◌, ◌<◌, ◌^◌, ◌+◌, ◌↔◌, length, map}
use Rattle.std.specs.List.{AllByRecursion}
use Rattle.nla_frames.specs.Emission.{list_bytes}
use Rattle.nla_frames.proofs.lists.write.list_checked_len.Given as goal

-- all fit if those that are left do, the total is what the frames before these have, and can be counted
abbrev pub invariant-loop-left : goal.invariant-loop-left
invariant-loop-left g l =
    (AllByRecursion g.T.FrameMeaning.codec.Fits (map g.T.FrameMeaning.see l.items)
    ↔ AllByRecursion g.T.FrameMeaning.codec.Fits (map g.T.FrameMeaning.see l.left))
    × (l.total + length (list_bytes g.T.FrameMeaning.codec.write (map g.T.FrameMeaning.see l.left))
    ≡ length (list_bytes g.T.FrameMeaning.codec.write (map g.T.FrameMeaning.see l.items)))
    × (l.total < 2 ^ 64)

abbrev pub decreases-loop-left : goal.decreases-loop-left
decreases-loop-left g l = length l.left

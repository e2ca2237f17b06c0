use Rattle.std.proofs.Common.{◌≡◌, ◌≤◌, length, map, take, drop}
use Rattle.std.specs.List.{AllByRecursion}
use Rattle.nla_frames.specs.Emission.{list_bytes, Writes}
use Rattle.nla_frames.proofs.lists.write.put_list.Given as goal

-- the bytes before `at` are written, those of the items that are left come after it, these fit, and if they are typed all are
abbrev pub invariant-loop-left : goal.invariant-loop-left
invariant-loop-left g l =
    (l.at ≤ length (list_bytes g.T.FrameMeaning.codec.write (map g.T.FrameMeaning.see l.items)))
    × (list_bytes g.T.FrameMeaning.codec.write (map g.T.FrameMeaning.see l.left)
    ≡ drop l.at (list_bytes g.T.FrameMeaning.codec.write (map g.T.FrameMeaning.see l.items)))
    × Writes (take l.at (list_bytes g.T.FrameMeaning.codec.write (map g.T.FrameMeaning.see l.items))) l.initial.buffer l.buffer
    × AllByRecursion g.T.FrameMeaning.codec.Fits (map g.T.FrameMeaning.see l.left)
    × (AllByRecursion g.T.FrameMeaning.codec.Typed (map g.T.FrameMeaning.see l.left)
    → AllByRecursion g.T.FrameMeaning.codec.Typed (map g.T.FrameMeaning.see l.items))

abbrev pub decreases-loop-left : goal.decreases-loop-left
decreases-loop-left g l = length l.left

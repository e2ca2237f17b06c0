use Rattle.std.proofs.Common.{◌≡◌, map, drop}
use Rattle.nla_frames.specs.Buffer.{frame_of}
use Rattle.nla_frames.specs.Reading.{before, read_each, whole, keep}
use Rattle.nla_frames.proofs.lists.read.read_frames.Given as goal

abbrev pub invariant-loop-frame : goal.invariant-loop-frame
invariant-loop-frame g l =
    before (map g.T.FrameMeaning.see l.list.items) (read_each g.T.FrameMeaning.codec.read keep l.kind (whole (map frame_of (drop l.frame-index l.frames))))
    ≡ read_each g.T.FrameMeaning.codec.read keep l.kind (whole (map frame_of l.frames))

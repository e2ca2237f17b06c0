use Rattle.std.proofs.Common.{◌≡◌, map}
use Rattle.nla_frames.specs.Iterator.{items_left}
use Rattle.nla_frames.specs.Reading.{before, read_each, read_list, keep}
use Rattle.nla_frames.proofs.lists.read.read_all.Given as goal

abbrev pub invariant-loop-frame : goal.invariant-loop-frame
invariant-loop-frame g l =
    before (map g.T.FrameMeaning.see l.list.items) (read_each g.T.FrameMeaning.codec.read keep (g.R.FrameReader.kind l.reader) (items_left l.frame-iterator))
    ≡ read_list g.T.FrameMeaning.codec.read keep (g.R.FrameReader.kind l.reader) l.bytes

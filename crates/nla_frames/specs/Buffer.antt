-- The frame that a buffer holds.
use Rattle.std.specs.Prelude.{Ok, Err}
use Rattle.nla_frames.specs.declared.buffer.NlaBuffer.{NlaBuffer}
use Rattle.nla_frames.specs.Fault.{Outcome}
use Rattle.nla_frames.specs.Frame.{Frame}

abbrev pub frame_of : NlaBuffer → Frame
frame_of b = record { word = b.word; value = b.value.now }

-- the frame, without what follows it
abbrev pub first_of : {X : Type 0} → Outcome (Frame × X) → Outcome Frame
first_of (Ok next) = Ok next.0
first_of (Err e) = Err e

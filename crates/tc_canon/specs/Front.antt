-- A frame at the front of bytes.
use Rattle.std.specs.Prelude.{◌≡◌, ℕ, List, ◌++◌}
use Rattle.nla_frames.specs.Frame.{Frame, IsFrame, frame_bytes}

-- a frame, padded in full with zeros, and what comes after
pub record StartsPadded (bytes : List ℕ) (f : Frame) (after : List ℕ) : Type 0 where
  pub frame : IsFrame f
  pub parts : bytes ≡ frame_bytes f ++ after

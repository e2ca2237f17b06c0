use Rattle.std.proofs.Common.{◌≡◌, take}
use Rattle.std.specs.List.{flat_map}
use Rattle.tests_data.specs.Inputs.{after_zeros}
use Rattle.tests_data.proofs.input.Input.of_frames.Given as goal

-- the header and the attributes so far
abbrev pub invariant-loop-frame : goal.invariant-loop-frame
invariant-loop-frame l = l.bytes.items ≡ after_zeros l.form (flat_map (λ frame. frame.now) (take l.frame-index l.frames))

-- The cutting of bytes into frames, as a function. `cutting` in src/laws.rt proves that it is the grammar.
use Rattle.std.specs.Prelude.{ℕ, zero, suc, List, [], ◌∷◌, ◌++◌, length, map, take, drop, Option, Some, None, Ok, Err, nat_lt, if◌then◌else◌}
use Rattle.nla_frames.specs.declared.error.DecodeError.{DecodeError}
use Rattle.nla_frames.specs.declared.error.DecodeError.TheVariants.{FrameHeaderShort, FrameTooLong, FrameTooShort}
use Rattle.nla_frames.specs.Fault.{Outcome}
use Rattle.nla_frames.specs.Value.{le_value}
use Rattle.nla_frames.specs.Frame.{Frame, padding}
use Rattle.nla_frames.specs.Grammar.{length_at}

-- the frame of the first n bytes
abbrev pub frame_of_length : ℕ → List ℕ → Frame
frame_of_length n bytes = record { word = le_value (take 2 (drop 2 bytes)); value = drop 4 (take n bytes) }

-- the first frame and the bytes after its padding; the bytes may be empty
unfoldable pub next_frame : List ℕ → Outcome (Frame × List ℕ)
next_frame bytes =
    let long = length_at bytes in
    if nat_lt (length bytes) 4 then Err (FrameHeaderShort (length bytes)) else
    if nat_lt (length bytes) long then Err (FrameTooLong long (length bytes)) else
    if nat_lt long 4 then Err (FrameTooShort long) else
    Ok (frame_of_length long bytes, drop (padding long) (drop long bytes))

-- the frames, and the fault if one is broken
pub record Cutting : Type 0 where
  pub frames : List Frame
  pub fault : Option DecodeError

abbrev pub nothing_cut : Cutting
nothing_cut = record { frames = []; fault = None }

abbrev pub cut_ended : DecodeError → Cutting
cut_ended e = record { frames = []; fault = Some e }

abbrev pub before_cut : Frame → Cutting → Cutting
before_cut f c = record { frames = f ∷ c.frames; fault = c.fault }

-- the next frame, and the cutting of the rest
abbrev pub cut_after : (List ℕ → Cutting) → Outcome (Frame × List ℕ) → Cutting
cut_after cut_rest (Ok next) = before_cut next.0 (cut_rest next.1)
cut_after cut_rest (Err e) = cut_ended e

-- cuts at most n frames
unfoldable pub cut_up_to : ℕ → List ℕ → Cutting
cut_up_to zero bytes = nothing_cut
cut_up_to (suc n) [] = nothing_cut
cut_up_to (suc n) (b ∷ bytes) = cut_after (cut_up_to n) (next_frame (b ∷ bytes))

-- a frame has at least one byte, so there are no more frames than bytes
unfoldable pub cut : List ℕ → Cutting
cut bytes = cut_up_to (length bytes) bytes

-- the items of an iterator: the frames, then the fault if there is one
abbrev pub fault_at_end : Option DecodeError → List (Outcome Frame)
fault_at_end None = []
fault_at_end (Some e) = Err e ∷ []

abbrev pub items_of : Cutting → List (Outcome Frame)
items_of c = map Ok c.frames ++ fault_at_end c.fault

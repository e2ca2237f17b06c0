-- Bytes cut into frames: the nla_type, the value, and the padding unchanged, of which the last frame may lack some.
use Rattle.std.specs.Prelude.{List, None, Option, Some, drop, if◌then◌else◌, length, nat_le, replicate, take, ℕ, ◌&&◌, ◌++◌}
use Rattle.nla_frames.specs.Frame.{header, padding}
use Rattle.nla_frames.specs.Grammar.{length_at}
use Rattle.nla_frames.specs.Value.{le_value}
use Rattle.forms_attributes.specs.declared.attributes_shown.Frame.{Frame}

pub record PaddedFrame : Type 0 where
  pub word : ℕ
  pub value : List ℕ
  pub pad : List ℕ

-- the frame of the code
abbrev pub frame_view : Frame → PaddedFrame
frame_view f = record { word = f.word; value = f.value.now; pad = f.pad.now }

-- its bytes: the length, the word, the value, the padding
abbrev pub frame_bytes : PaddedFrame → List ℕ
frame_bytes c = header (length c.value) c.word ++ (c.value ++ c.pad)

abbrev pub frame_at : ℕ → List ℕ → PaddedFrame
frame_at n b = record { word = le_value (take 2 (drop 2 b)); value = drop 4 (take n b); pad = take (padding n) (drop n b) }

-- the frame at the front, if one is there
abbrev pub front : List ℕ → Option PaddedFrame
front b = if nat_le 4 (length_at b) && nat_le (length_at b) (length b) then Some (frame_at (length_at b) b) else None

-- the bytes after it
abbrev pub after_first : List ℕ → List ℕ
after_first b = drop (padding (length_at b)) (drop (length_at b) b)

-- the usual padding
abbrev pub zero_pad : List ℕ → List ℕ
zero_pad value = replicate (padding (length value)) 0

-- The bytes of a frame: their number, and that the frame reads back from them.
use Rattle.std.proofs.Common.{◌≡◌, ℕ, ◌+◌, List, ◌++◌, length, replicate, Ok, ap, ◌∙◌, arith, inl, append_assoc}
use Rattle.std.proofs.lemmas.List.{length-append, length-replicate}
use Rattle.nla_frames.specs.Value.{IsBytes, le_bytes}
use Rattle.nla_frames.specs.Frame.{Frame, IsFrame, padding, header, padded, frame_bytes, frame_length}
use Rattle.nla_frames.specs.Grammar.{Begins}
use Rattle.nla_frames.specs.Cutting.{next_frame}
use Rattle.nla_frames.proofs.Bytes.{IsBytes-append, IsBytes-replicate, IsBytes-le_bytes}
use Rattle.nla_frames.proofs.Front.{length-header, next_frame_at}

-- a padded value has the bytes of the value and of its padding
pub length-padded : (value : List ℕ) → length (padded value) ≡ length value + padding (length value)
unfolding padded
length-padded value = length-append value (replicate (padding (length value)) 0)
    ∙ ap (λ (k : ℕ). length value + k) (length-replicate (padding (length value)) 0)

-- the number of a frame's bytes is its length
pub length_frame_bytes : (f : Frame) → length (frame_bytes f) ≡ frame_length f
unfolding frame_bytes
length_frame_bytes f = omega (
  arith,
  length-append (header (length f.value) f.word) (padded f.value),
  length-header (length f.value) f.word,
  length-padded f.value,
)

-- a padded value is bytes
pub IsBytes-padded : (value : List ℕ) → IsBytes value → IsBytes (padded value)
unfolding padded
IsBytes-padded value is = IsBytes-append value (replicate (padding (length value)) 0) is (IsBytes-replicate (padding (length value)) 0 (omega arith))

-- a header is bytes
pub IsBytes-header : (n word : ℕ) → IsBytes (header n word)
unfolding header
IsBytes-header n word = IsBytes-append (le_bytes 2 (4 + n)) (le_bytes 2 word) (IsBytes-le_bytes 2 (4 + n)) (IsBytes-le_bytes 2 word)

-- a frame is written as bytes
pub IsBytes-frame_bytes : (f : Frame) → IsBytes f.value → IsBytes (frame_bytes f)
unfolding frame_bytes
IsBytes-frame_bytes f is = IsBytes-append (header (length f.value) f.word) (padded f.value) (IsBytes-header (length f.value) f.word) (IsBytes-padded f.value is)

-- a frame as it is written is in front of what follows
pub Begins-frame_bytes : (f : Frame) (rest : List ℕ) → IsFrame f → Begins (frame_bytes f ++ rest) f rest
unfolding frame_bytes padded
Begins-frame_bytes f rest is =
    let head = header (length f.value) f.word in
    let pad = replicate (padding (length f.value)) 0 in
    record {
      frame = is;
      pad = pad;
      full = length-replicate (padding (length f.value)) 0;
      parts = append_assoc head (f.value ++ pad) rest ∙ ap (λ (t : List ℕ). head ++ t) (append_assoc f.value pad rest);
    }

-- and is the next one there
pub next_frame-frame_bytes : (f : Frame) (rest : List ℕ) → IsFrame f → next_frame (frame_bytes f ++ rest) ≡ Ok (f, rest)
next_frame-frame_bytes f rest is =
    let begins = Begins-frame_bytes f rest is in
    rw begins.parts (next_frame_at f begins.pad rest is (omega (arith, begins.full)) (inl begins.full))

-- One frame of netlink: a length and a word, two bytes each and little-endian, then the value, then
-- padding up to a multiple of four bytes. The length counts the header and the value, not the padding.
use Rattle.std.specs.Prelude.{ℕ, ◌+◌, ◌-◌, ◌%◌, ◌^◌, ◌<◌, ◌≤◌, List, ◌++◌, length, replicate}
use Rattle.nla_frames.specs.Value.{IsBytes, le_bytes}

-- a frame without its length and its padding
pub record Frame : Type 0 where
  pub word : ℕ
  pub value : List ℕ

-- the type: the word without its two flag bits
abbrev pub type_of : ℕ → ℕ
type_of word = word % 0x4000

-- a frame whose word and length can be written
pub record IsFrame (f : Frame) : Type 0 where
  pub word : f.word < 2 ^ 16
  pub value : length f.value ≤ 65531

-- a frame cut from bytes: its value consists of bytes too
pub record IsWireFrame (f : Frame) : Type 0 where
  pub frame : IsFrame f
  pub bytes : IsBytes f.value

-- the length of the padding after n bytes
abbrev pub padding : ℕ → ℕ
padding n = (4 - n % 4) % 4

-- the length and the word of a frame whose value has n bytes
unfoldable pub header : ℕ → ℕ → List ℕ
header n word = le_bytes 2 (4 + n) ++ le_bytes 2 word

-- a value, and zeros up to a multiple of four bytes
unfoldable pub padded : List ℕ → List ℕ
padded value = value ++ replicate (padding (length value)) 0

-- the bytes of a frame, its padding zero
unfoldable pub frame_bytes : Frame → List ℕ
frame_bytes f = header (length f.value) f.word ++ padded f.value

-- the length of a frame, padding included
abbrev pub frame_length : Frame → ℕ
frame_length f = 4 + length f.value + padding (length f.value)

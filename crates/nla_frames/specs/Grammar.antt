-- Lists of frames, as a grammar on whole texts.
use Rattle.std.specs.Prelude.{◌≡◌, ℕ, ◌≤◌, ◌<◌, List, [], ◌∷◌, ◌++◌, length, take, Option, Some, None}
use Rattle.nla_frames.specs.declared.error.DecodeError.{DecodeError}
use Rattle.nla_frames.specs.declared.error.DecodeError.TheVariants.{FrameHeaderShort, FrameTooLong, FrameTooShort}
use Rattle.nla_frames.specs.Value.{le_value}
use Rattle.nla_frames.specs.Frame.{Frame, IsFrame, header, padding}

-- a frame with its full padding, of any content, and what comes after
pub record Begins (bytes : List ℕ) (f : Frame) (after : List ℕ) : Type 0 where
  pub frame : IsFrame f
  pub pad : List ℕ
  pub full : length pad ≡ padding (length f.value)
  pub parts : bytes ≡ header (length f.value) f.word ++ (f.value ++ (pad ++ after))

-- the last frame, with any beginning of its padding
pub record Ends (bytes : List ℕ) (f : Frame) : Type 0 where
  pub frame : IsFrame f
  pub pad : List ℕ
  pub short : length pad ≤ padding (length f.value)
  pub parts : bytes ≡ header (length f.value) f.word ++ (f.value ++ pad)

-- the bytes are these frames
abbrev pub AreFrames : List ℕ → List Frame → Type 0
AreFrames bytes [] = bytes ≡ []
AreFrames bytes (f ∷ []) = Ends bytes f
AreFrames bytes (f ∷ g ∷ fs) = (after : List ℕ) × Begins bytes f after × AreFrames after (g ∷ fs)

-- the bytes are these frames, each padded in full, and a rest
abbrev pub AreFramesAndRest : List ℕ → List Frame → List ℕ → Type 0
AreFramesAndRest bytes [] rest = bytes ≡ rest
AreFramesAndRest bytes (f ∷ fs) rest = (after : List ℕ) × Begins bytes f after × AreFramesAndRest after fs rest

-- the length at the front of a frame, `nla_len`
abbrev pub length_at : List ℕ → ℕ
length_at rest = le_value (take 2 rest)

-- bytes are left, and the frame at their front is broken in this way
abbrev pub IsBroken : List ℕ → DecodeError → Type 0
IsBroken rest (FrameHeaderShort left) = (left ≡ length rest) × (0 < left) × (left < 4)
IsBroken rest (FrameTooLong long left) = (left ≡ length rest) × (4 ≤ left) × (long ≡ length_at rest) × (left < long)
IsBroken rest (FrameTooShort long) = (4 ≤ length rest) × (long ≡ length_at rest) × (long ≤ length rest) × (long < 4)
IsBroken rest _ = ⊥

-- the bytes are these frames, or these frames and a broken one
abbrev pub CutsUp : List ℕ → List Frame → Option DecodeError → Type 0
CutsUp bytes fs None = AreFrames bytes fs
CutsUp bytes fs (Some e) = (rest : List ℕ) × AreFramesAndRest bytes fs rest × IsBroken rest e

-- The front of some bytes: a frame, or a broken one.
use Rattle.std.specs.Prelude.{◌≡◌, ℕ, List, [], ◌∷◌}
use Rattle.nla_frames.specs.declared.error.DecodeError.{DecodeError}
use Rattle.nla_frames.specs.declared.error.DecodeError.TheVariants.{FrameHeaderShort}
use Rattle.nla_frames.specs.Grammar.{IsBroken}
pub use Rattle.nla_frames.specs.ListGrammar.{StartsWith}

-- the frame at the front is broken in this way; if there are no bytes, its header is short
abbrev pub HasBrokenFront : List ℕ → DecodeError → Type 0
HasBrokenFront [] e = e ≡ FrameHeaderShort 0
HasBrokenFront (b ∷ bytes) e = IsBroken (b ∷ bytes) e

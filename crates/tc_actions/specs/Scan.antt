-- The result of a scan of a list of frames that holds its own kind.
use Rattle.std.specs.Prelude.{◌≡◌, ℕ, List, [], Option, Ok, map}
use Rattle.nla_frames.specs.declared.buffer.NlaBuffer.{NlaBuffer}
use Rattle.nla_frames.specs.declared.only_kind.OnlyKind.{OnlyKind}
use Rattle.nla_frames.specs.Buffer.{frame_of}
use Rattle.nla_frames.specs.Cutting.{cut, items_of}
use Rattle.nla_frames.specs.Reading.{read_list, keep, whole}
use Rattle.nla_frames.specs.OnlyKind.{Summarizes}
use Rattle.tc_meaning.specs.OwnGrammar.{first_look, kinds_found}

-- the bytes are these frames, and set no kind, one, or several, as `only` says
pub record Scanned (bytes : List ℕ) (frames : List NlaBuffer) (only : OnlyKind) : Type 0 where
  pub looks : List (Option (List ℕ))
  pub looked : read_list first_look keep [] bytes ≡ Ok looks
  pub kinds : Summarizes only (kinds_found looks)
  pub are_all : items_of (cut bytes) ≡ whole (map frame_of frames)

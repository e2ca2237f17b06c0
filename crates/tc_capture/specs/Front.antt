-- The piece at the front of a capture.
use Rattle.std.specs.Prelude.{ℕ, Option, option_map}
use Rattle.tc_capture.specs.declared.piece.Piece.{Piece}
use Rattle.tc_capture.specs.Outcome.{Outcome, seen}
use Rattle.tc_capture.specs.Packet.{Captured, captured_of}

-- the length of a piece, and its packet, if any, or the reason why it can't be read
pub record Front : Type 0 where
  pub used : ℕ
  pub packet : Outcome (Option Captured)

-- the abstract value of a piece
abbrev pub front_of : Piece → Front
front_of p = record { used = p.used; packet = seen (option_map captured_of) p.packet }

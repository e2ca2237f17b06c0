-- The piece at the front of some bytes.
use Rattle.std.specs.Prelude.{◌≡◌, ◌<◌, ◌≤◌, ℕ, List, length, take, drop, Option, Some, None, Ok, Err, ⊤}
use Rattle.tc_capture.specs.declared.error.CaptureError.{CaptureError}
use Rattle.tc_capture.specs.declared.error.CaptureError.TheVariants.{Short}
use Rattle.tc_capture.specs.Outcome.{Outcome}
use Rattle.tc_capture.specs.Packet.{Captured}
use Rattle.tc_capture.specs.Front.{Front}

-- the packet of a piece is in its bytes, at its offset
abbrev pub HoldsPacket : List ℕ → Outcome (Option Captured) → Type 0
HoldsPacket piece (Ok (Some p)) = p.bytes ≡ take (length p.bytes) (drop p.at piece)
HoldsPacket piece (Ok None) = ⊤
HoldsPacket piece (Err e) = ⊤

-- a piece has at least one byte, and all of it is there
pub record IsFront (bytes : List ℕ) (front : Front) : Type 0 where
  pub some : 0 < front.used
  pub within : front.used ≤ length bytes
  pub packet : HoldsPacket (take front.used bytes) front.packet

abbrev pub IsShort : CaptureError → Type 0
IsShort (Short needed left) = ⊤
IsShort _ = ⊥

-- more bytes are needed
abbrev pub NeedsMore : {X : Type 0} → Outcome X → Type 0
NeedsMore (Ok x) = ⊥
NeedsMore (Err e) = IsShort e

-- The reading of a file: its packets in order, each with its messages. The number of a packet is its place among them.
use Rattle.std.specs.Prelude.{ℕ, List, [], ◌∷◌, Option, Some, None, Ok, Err, option_map}
use Rattle.std.specs.List.{flat_map}
use Rattle.tc_capture.specs.declared.error.CaptureError.{CaptureError}
use Rattle.tc_capture.specs.declared.time.Time.{Time}
use Rattle.tc_capture.specs.Outcome.{Outcome}
use Rattle.tc_capture.specs.Message.{Message}
use Rattle.tc_capture.specs.Messages.{messages_in}
use Rattle.tc_capture.specs.Packet.{Captured, Contents, route, family, link_type, contents_in}
use Rattle.tc_capture_laws.specs.Pieces as pieces
use Rattle.tc_capture_laws.specs.Pieces.{What, Piece, pieces_of}

-- a packet of route netlink: its time and the type in its cooked header, if the file has them, and its messages
pub record RoutePacket : Type 0 where
  pub time : Option Time
  pub packet_type : Option ℕ
  pub messages : List (Outcome Message)

-- a packet, or a report in its place
pub data Read : Type 0 where
  packet : RoutePacket → Read
  foreign : Contents → Read
  broken : CaptureError → Read
  skipped : Read

abbrev pub packet_of : Captured → Outcome Contents → Read
packet_of p (Ok (route packet_type bytes)) = packet (record { time = p.time; packet_type = packet_type; messages = messages_in bytes })
packet_of p (Ok (family n)) = foreign (family n)
packet_of p (Ok (link_type n)) = foreign (link_type n)
packet_of p (Err e) = broken e

abbrev pub read_of : What → List Read
read_of (pieces.read (Ok (Some p))) = packet_of p (contents_in p.link p.bytes) ∷ []
read_of (pieces.read (Ok None)) = []
read_of (pieces.read (Err e)) = broken e ∷ []
read_of pieces.skipped = skipped ∷ []
read_of (pieces.rest e) = broken e ∷ []

abbrev pub read_in : List Piece → List Read
read_in found = flat_map (λ (p : Piece). read_of p.what) found

-- the reading of a file, if it is a capture, by a reader that keeps this many bytes
abbrev pub reading : ℕ → List ℕ → Option (List Read)
reading most file = option_map read_in (pieces_of most file)

-- the messages of a reading
abbrev pub messages_of : Read → List (Outcome Message)
messages_of (packet p) = p.messages
messages_of (foreign contents) = []
messages_of (broken e) = Err e ∷ []
messages_of skipped = []

abbrev pub messages_read : ℕ → List ℕ → Option (List (Outcome Message))
messages_read most file = option_map (λ (found : List Read). flat_map messages_of found) (reading most file)

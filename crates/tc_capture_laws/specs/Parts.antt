-- The parts of a file, down to its messages.
use Rattle.std.specs.Prelude.{ℕ, zero, suc, ◌+◌, ◌-◌, List, [], ◌∷◌, ◌++◌, length, take, drop, Option, None, Some, Ok, Err, if◌then◌else◌}
use Rattle.std.specs.List.{flat_map}
use Rattle.tc_capture.specs.declared.error.CaptureError.{CaptureError}
use Rattle.tc_capture.specs.Outcome.{Outcome}
use Rattle.tc_capture.specs.Message.{Message, next_message}
use Rattle.tc_capture.specs.Messages.{are_zeros}
use Rattle.tc_capture.specs.Packet.{Captured, Contents, route, family, link_type, contents_in}
use Rattle.tc_capture_laws.specs.Pieces as pieces
use Rattle.tc_capture_laws.specs.Pieces.{What, Piece}

pub data Kind : Type 0 where
  -- part of the file format: a header, a time, a pcapng block without a packet, padding
  format : Kind
  -- a netlink message and its padding
  message : Message → Kind
  -- zeros after the last message of a packet
  zeros : Kind
  -- a packet that isn't route netlink
  foreign : Contents → Kind
  -- a whole part that can't be read: a pcapng block, a packet, or the end of a packet from its first broken message on
  broken : CaptureError → Kind
  -- a piece that is too long
  skipped : Kind
  -- the rest, if the file can't be read further
  rest : CaptureError → Kind

pub record Part : Type 0 where
  pub kind : Kind
  pub bytes : List ℕ

abbrev pub part : Kind → List ℕ → List Part
part kind bytes = record { kind = kind; bytes = bytes } ∷ []

-- the bytes before the last n
abbrev pub before_last : ℕ → List ℕ → List ℕ
before_last n bytes = take (length bytes - n) bytes

-- the next message before those of what follows it
abbrev pub message_and_more : (List ℕ → List Part) → List ℕ → Outcome (Message × List ℕ) → List Part
message_and_more parts_after bytes (Ok next) = part (message next.0) (before_last (length next.1) bytes) ++ parts_after next.1
message_and_more parts_after bytes (Err e) = part (broken e) bytes

-- at most n of them
unfoldable pub message_parts_up_to : ℕ → List ℕ → List Part
message_parts_up_to zero bytes = []
message_parts_up_to (suc n) bytes = if are_zeros bytes then part zeros bytes else message_and_more (message_parts_up_to n) bytes (next_message bytes)

-- the messages of a packet, and the bytes after them; a message has at least one byte
unfoldable pub message_parts : List ℕ → List Part
message_parts bytes = message_parts_up_to (length bytes) bytes

-- the parts of a packet, according to its contents: a cooked header, if any, and messages
abbrev pub contents_parts : List ℕ → Outcome Contents → List Part
contents_parts bytes (Ok (route packet_type messages)) = part format (before_last (length messages) bytes) ++ message_parts messages
contents_parts bytes (Ok (family n)) = part (foreign (family n)) bytes
contents_parts bytes (Ok (link_type n)) = part (foreign (link_type n)) bytes
contents_parts bytes (Err e) = part (broken e) bytes

-- a packet within its piece
abbrev pub packet_parts : Captured → List ℕ → List Part
packet_parts p bytes =
    part format (take p.at bytes) ++ contents_parts p.bytes (contents_in p.link p.bytes) ++ part format (drop (p.at + length p.bytes) bytes)

abbrev pub read_parts : Outcome (Option Captured) → List ℕ → List Part
read_parts (Ok (Some p)) bytes = packet_parts p bytes
read_parts (Ok None) bytes = part format bytes
read_parts (Err e) bytes = part (broken e) bytes

abbrev pub what_parts : What → List ℕ → List Part
what_parts (pieces.read packet) bytes = read_parts packet bytes
what_parts pieces.skipped bytes = part skipped bytes
what_parts (pieces.rest e) bytes = part (rest e) bytes

-- the parts of pieces, in their order
abbrev pub parts_in : List Piece → List Part
parts_in found = flat_map (λ (p : Piece). what_parts p.what p.bytes) found

-- one after the other
abbrev pub joined : List Part → List ℕ
joined parts = flat_map (λ (p : Part). p.bytes) parts

-- the outcome of a part: a message, or the fault of the messages
abbrev pub outcomes_of : Kind → List (Outcome Message)
outcomes_of (message m) = Ok m ∷ []
outcomes_of (broken e) = Err e ∷ []
outcomes_of _ = []

abbrev pub messages_of : List Part → List (Outcome Message)
messages_of parts = flat_map (λ (p : Part). outcomes_of p.kind) parts

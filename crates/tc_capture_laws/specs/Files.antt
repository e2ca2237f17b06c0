-- The bytes of the same packets in each format.
use Rattle.std.specs.Prelude.{⊤, ◌≡◌, ◌≢◌, ◌<◌, ◌≤◌, ℕ, ◌+◌, ◌*◌, ◌/◌, ◌%◌, ◌^◌, List, [], ◌∷◌, ◌++◌, All, length, map, replicate, Option, Some, None, Ok}
use Rattle.std.specs.List.{flat_map}
use Rattle.byteorder.specs.Endian.{little_bytes, big_bytes}
use Rattle.tc_capture.specs.declared.order.Order.{Order}
use Rattle.tc_capture.specs.declared.order.Order.TheVariants.{Little, Big}
use Rattle.tc_capture.specs.declared.time.Time.{Time}
use Rattle.tc_capture.specs.Message.{Message, padding}
use Rattle.tc_capture.specs.Written.{in_netlink, cooked, file_header, packet_header}
use Rattle.tc_capture_laws.specs.Reading.{Read, packet}

-- a packet: its time, the type in its cooked header, and its messages
pub record Packet : Type 0 where
  pub time : Time
  pub packet_type : ℕ
  pub messages : List Message

-- the numbers of a message fit their fields
pub record IsMessage (m : Message) : Type 0 where
  pub kind : m.kind < 2 ^ 16
  pub flags : m.flags < 2 ^ 16
  pub sequence : m.sequence < 2 ^ 32
  pub port : m.port < 2 ^ 32

-- n zeros
abbrev pub zeros : ℕ → List ℕ
zeros n = replicate n 0

-- some bytes and zeros, up to a multiple of four
abbrev pub padded : List ℕ → List ℕ
padded bytes = bytes ++ zeros (padding (length bytes))

-- a message after its header, and its padding
abbrev pub message_bytes : Message → List ℕ
message_bytes m = padded (in_netlink m.kind m.flags m.sequence m.port m.payload)

abbrev pub messages_bytes : List Message → List ℕ
messages_bytes messages = flat_map message_bytes messages

-- a packet: the cooked header and its messages
abbrev pub packet_bytes : Packet → List ℕ
packet_bytes p = cooked p.packet_type ++ messages_bytes p.messages

-- the numbers of a packet fit their fields, and it has at most this many bytes
pub record IsPacket (most : ℕ) (p : Packet) : Type 0 where
  pub seconds : p.time.seconds < 2 ^ 32
  pub nanoseconds : p.time.nanoseconds < 10 ^ 9
  pub packet_type : p.packet_type < 2 ^ 16
  pub messages : All IsMessage p.messages
  pub length : length (packet_bytes p) ≤ most

-- the expected reading of a packet
abbrev pub as_read : Packet → Read
as_read p = packet (record { time = Some p.time; packet_type = Some p.packet_type; messages = map (λ (m : Message). Ok m) p.messages })

-- the expected reading of a message in a stream
abbrev pub single_as_read : Option Time → Message → Read
single_as_read time m = packet (record { time = time; packet_type = None; messages = Ok m ∷ [] })

abbrev pub all_messages : List Packet → List Message
all_messages packets = flat_map (λ (p : Packet). p.messages) packets

-- ---- a written capture

-- the messages of a packet, with nothing between them
abbrev pub written_messages : List Message → List ℕ
written_messages messages = flat_map (λ (m : Message). in_netlink m.kind m.flags m.sequence m.port m.payload) messages

abbrev pub written_packet : Packet → List ℕ
written_packet p =
    let bytes = written_messages p.messages in
    packet_header p.time.seconds p.time.nanoseconds (length bytes + 16) p.packet_type ++ bytes

abbrev pub written_file : List Packet → List ℕ
written_file packets = file_header ++ flat_map written_packet packets

-- a message that needs no padding
abbrev pub HasNoPadding : Message → Type 0
HasNoPadding m = length m.payload % 4 ≡ 0

-- only the last message may need padding
abbrev pub AreAligned : List Message → Type 0
AreAligned [] = ⊤
AreAligned (m ∷ []) = ⊤
AreAligned (m ∷ n ∷ messages) = HasNoPadding m × AreAligned (n ∷ messages)

-- ---- a stream

-- not the time of the messages that follow it, NLMSG_TSTAMP
abbrev pub IsNoTime : Message → Type 0
IsNoTime m = m.kind ≢ 15

-- a message that is no longer than this many bytes
abbrev pub HasAtMost : ℕ → Message → Type 0
HasAtMost most m = length (message_bytes m) ≤ most

abbrev pub stream_file : List Message → List ℕ
stream_file messages = messages_bytes messages

-- NLMSG_TSTAMP: seconds and microseconds
abbrev pub stamp : Time → Message
stamp time = record {
  kind = 15;
  flags = 0;
  sequence = 0;
  port = 0;
  payload = little_bytes 4 time.seconds ++ little_bytes 4 (time.nanoseconds / 1000);
}

-- a stream with times, as `rtmon` writes it
abbrev pub timed_file : List Packet → List ℕ
timed_file packets = flat_map (λ (p : Packet). message_bytes (stamp p.time) ++ messages_bytes p.messages) packets

-- the time is in whole microseconds, and each message has at most this many bytes
pub record IsTimed (most : ℕ) (p : Packet) : Type 0 where
  pub seconds : p.time.seconds < 2 ^ 32
  pub nanoseconds : p.time.nanoseconds < 10 ^ 9
  pub microseconds : p.time.nanoseconds % 1000 ≡ 0
  pub messages : All IsMessage p.messages
  pub others : All IsNoTime p.messages
  pub lengths : All (HasAtMost most) p.messages

-- the expected reading of it
abbrev pub timed_as_read : List Packet → List Read
timed_as_read packets = flat_map (λ (p : Packet). map (single_as_read (Some p.time)) p.messages) packets

-- ---- pcap and pcapng, in either byte order

-- a number of n bytes
abbrev pub number_bytes : Order → ℕ → ℕ → List ℕ
number_bytes Little n x = little_bytes n x
number_bytes Big n x = big_bytes n x

module _ (order : Order) where
  -- the magic number of times in nanoseconds, version 2.4, the time zone and its accuracy, the longest packet, and LINKTYPE_NETLINK
  abbrev pub pcap_header : ℕ → List ℕ
  pcap_header most =
      number_bytes order 4 0xa1b23c4d ++ number_bytes order 2 2 ++ number_bytes order 2 4 ++ zeros 8 ++ number_bytes order 4 most ++ number_bytes order 4 253

  -- seconds, nanoseconds, the number of bytes in the file, the number of bytes on the wire, and the bytes
  abbrev pub pcap_record : Time → List ℕ → List ℕ
  pcap_record time bytes =
      number_bytes order 4 time.seconds ++ number_bytes order 4 time.nanoseconds ++ number_bytes order 4 (length bytes)
      ++ number_bytes order 4 (length bytes) ++ bytes

  abbrev pub pcap_file : ℕ → List Packet → List ℕ
  pcap_file most packets = pcap_header most ++ flat_map (λ (p : Packet). pcap_record p.time (packet_bytes p)) packets

  -- the type, the length, the body, and the length again
  abbrev pub block : ℕ → List ℕ → List ℕ
  block kind body =
      let long = 12 + length body in
      number_bytes order 4 kind ++ number_bytes order 4 long ++ body ++ number_bytes order 4 long

  -- the byte order, version 1.0, and a length that isn't known
  abbrev pub section_header : List ℕ
  section_header = block 0x0a0d0d0a (number_bytes order 4 0x1a2b3c4d ++ number_bytes order 2 1 ++ number_bytes order 2 0 ++ replicate 8 255)

  -- LINKTYPE_NETLINK, packets of any length, and the option if_tsresol: times in nanoseconds
  abbrev pub interface : List ℕ
  interface =
      block 1 (number_bytes order 2 253 ++ zeros 2 ++ number_bytes order 4 0 ++ number_bytes order 2 9 ++ number_bytes order 2 1 ++ padded (9 ∷ []) ++ zeros 4)

  -- an enhanced packet block of the first interface: the time, higher half first, the number of bytes in the file, the
  -- number of bytes on the wire
  abbrev pub enhanced_packet : Packet → List ℕ
  enhanced_packet p =
      let bytes = packet_bytes p in
      let ticks = p.time.seconds * 10 ^ 9 + p.time.nanoseconds in
      block 6 (number_bytes order 4 0 ++ number_bytes order 4 (ticks / 2 ^ 32) ++ number_bytes order 4 (ticks % 2 ^ 32)
      ++ number_bytes order 4 (length bytes) ++ number_bytes order 4 (length bytes) ++ padded bytes)

  abbrev pub pcapng_file : List Packet → List ℕ
  pcapng_file packets = section_header ++ interface ++ flat_map enhanced_packet packets

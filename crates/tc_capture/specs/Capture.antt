-- Captures, read one piece at a time.
use Rattle.std.specs.Prelude.{ℕ, ◌^◌, List, length, is_some, Option, Some, None, Ok, nat_lt, [], ◌==◌, if◌then◌else◌}
use Rattle.byteorder.specs.Endian.{little_number}
use Rattle.tc_capture.specs.declared.capture.Capture.{Capture}
use Rattle.tc_capture.specs.declared.capture.Capture.TheVariants.{Stream, PcapHeader, Pcap, PcapNg}
use Rattle.tc_capture.specs.declared.order.Order.TheVariants.{Little}
use Rattle.tc_capture.specs.declared.pcap.Pcap.{Pcap as PcapFile}
use Rattle.tc_capture.specs.declared.time.Time.{Time}
use Rattle.tc_capture.specs.Outcome.{Outcome, then_read}
use Rattle.tc_capture.specs.Front.{Front}
use Rattle.tc_capture.specs.Stream.{next_in_stream}
use Rattle.tc_capture.specs.Pcap.{magic_at, pcap_header, next_in_pcap}
use Rattle.tc_capture.specs.PcapNg.{Section, next_in_section}
use Rattle.tc_capture.specs.Section.{section_of}

-- the state of reading
pub data State : Type 0 where
  in_stream : Option Time → State
  before_header : State
  in_pcap : PcapFile → State
  in_section : Section → State

-- the abstract value of a capture
abbrev pub state_of : Capture → State
state_of (Stream time) = in_stream time
state_of PcapHeader = before_header
state_of (Pcap file) = in_pcap file
state_of (PcapNg section) = in_section (section_of section)

-- the capture that begins with these bytes: pcap if they are its magic number, pcapng if they are the type of its
-- first block, and a stream of netlink messages if the first message is shorter than 2^24 bytes
abbrev pub capture_at : List ℕ → Option State
capture_at first =
    if nat_lt (length first) 4 then None else
    if is_some (magic_at first) then Some before_header else
    if little_number 4 first == 0x0a0d0d0a then Some (in_section (record { order = Little; interfaces = [] })) else
    if nat_lt (little_number 4 first) (2 ^ 24) then Some (in_stream None) else None

-- the piece at the front, and the state after it
abbrev pub next_piece : State → List ℕ → Outcome (Front × State)
next_piece (in_stream time) bytes = then_read (next_in_stream time bytes) (λ x. Ok (x.0, in_stream x.1))
next_piece before_header bytes = then_read (pcap_header bytes) (λ file. Ok (record { used = 24; packet = Ok None }, in_pcap file))
next_piece (in_pcap file) bytes = then_read (next_in_pcap file bytes) (λ front. Ok (front, in_pcap file))
next_piece (in_section s) bytes = then_read (next_in_section s bytes) (λ x. Ok (x.0, in_section x.1))

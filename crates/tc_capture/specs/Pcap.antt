-- A classic pcap file. Its header has 24 bytes: a magic number at 0, which determines the byte order and the variant
-- of the format, and the link type in the lower half of the number at 20. A packet has seconds, microseconds or
-- nanoseconds, the number of bytes in the file, and the number of bytes on the wire, four bytes each; in modified pcap
-- eight more bytes; and then its bytes.
use Rattle.std.specs.Prelude.{ℕ, ◌+◌, ◌*◌, ◌%◌, List, length, take, drop, Option, Some, None, Ok, Err, nat_lt, nat_le, ◌==◌, if◌then◌else◌}
use Rattle.byteorder.specs.Endian.{little_number, big_number}
use Rattle.tc_capture.specs.declared.error.CaptureError.TheVariants.{Short, NotPcap}
use Rattle.tc_capture.specs.declared.order.Order.{Order}
use Rattle.tc_capture.specs.declared.order.Order.TheVariants.{Little, Big}
use Rattle.tc_capture.specs.declared.pcap.Pcap.{Pcap}
use Rattle.tc_capture.specs.declared.pcap.Variant.{Variant}
use Rattle.tc_capture.specs.declared.pcap.Variant.TheVariants.{Microseconds, Nanoseconds, Modified}
use Rattle.tc_capture.specs.Order.{number}
use Rattle.tc_capture.specs.Outcome.{Outcome}
use Rattle.tc_capture.specs.Time.{time_of}
use Rattle.tc_capture.specs.Packet.{Captured, link_of}
use Rattle.tc_capture.specs.Front.{Front}

-- the variant of a magic number
abbrev pub variant_of : ℕ → Option Variant
variant_of magic =
    if magic == 0xa1b2c3d4 then Some Microseconds else
    if magic == 0xa1b23c4d then Some Nanoseconds else
    if magic == 0xa1b2cd34 then Some Modified else None

-- the byte order in which the magic number is known, and the variant
abbrev pub in_order : Order → Option Variant → Option (Order × Variant) → Option (Order × Variant)
in_order order (Some variant) later = Some (order, variant)
in_order order None later = later

abbrev pub magic_at : List ℕ → Option (Order × Variant)
magic_at bytes = in_order Little (variant_of (little_number 4 bytes)) (in_order Big (variant_of (big_number 4 bytes)) None)

abbrev pub header_with : Option (Order × Variant) → List ℕ → Outcome Pcap
header_with None bytes = Err NotPcap
header_with (Some magic) bytes = Ok (record { order = magic.0; variant = magic.1; link = link_of (number magic.0 4 (drop 20 bytes) % 65536) })

-- the header of a file
unfoldable pub pcap_header : List ℕ → Outcome Pcap
pcap_header bytes =
    if nat_lt (length bytes) 24 then Err (Short 24 (length bytes)) else header_with (magic_at bytes) bytes

abbrev pub ticks_per_second : Variant → ℕ
ticks_per_second Nanoseconds = 1000000000
ticks_per_second variant = 1000000

-- the length of the header of a packet in bytes
abbrev pub record_header_len : Variant → ℕ
record_header_len Modified = 24
record_header_len variant = 16

-- the packet of n bytes after its header
abbrev pub packet_of_length : Pcap → ℕ → List ℕ → Captured
packet_of_length file n bytes =
    let units = ticks_per_second file.variant in
    let header = record_header_len file.variant in
    record {
      time = Some (time_of (number file.order 4 bytes * units + number file.order 4 (drop 4 bytes)) units);
      link = file.link;
      is_whole = nat_le (number file.order 4 (drop 12 bytes)) n;
      at = header;
      bytes = drop header (take (header + n) bytes);
    }

-- the packet at the front
unfoldable pub next_in_pcap : Pcap → List ℕ → Outcome Front
next_in_pcap file bytes =
    let header = record_header_len file.variant in
    let n = number file.order 4 (drop 8 bytes) in
    if nat_lt (length bytes) header then Err (Short header (length bytes)) else
    if nat_lt (length bytes) (header + n) then Err (Short (header + n) (length bytes)) else
    Ok (record { used = header + n; packet = Ok (Some (packet_of_length file n bytes)) })

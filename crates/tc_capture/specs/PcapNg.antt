-- A pcapng file is a list of blocks. A block has its type, its length, its body, and its length again, the numbers
-- four bytes each; the length includes all of them and is a multiple of four. A section header block begins a section:
-- it sets the byte order of the numbers up to the next one, and removes the interfaces described before it.
use Rattle.std.specs.Prelude.{ℕ, ◌+◌, ◌-◌, ◌*◌, ◌%◌, ◌^◌, min, List, [], ◌∷◌, ◌++◌, length, take, drop}
use Rattle.std.specs.Prelude.{slice_get, Bool, Option, Some, None, Ok, Err, nat_lt, nat_le, ◌==◌, if◌then◌else◌}
use Rattle.tc_capture.specs.declared.error.CaptureError.TheVariants.{Short, NoByteOrder, BlockLength, BlockEnd, BodyTooShort, NoInterface, TooManyInterfaces}
use Rattle.tc_capture.specs.declared.order.Order.{Order}
use Rattle.tc_capture.specs.declared.order.Order.TheVariants.{Little, Big}
use Rattle.tc_capture.specs.declared.pcapng.interface.Interface.{Interface}
use Rattle.tc_capture.specs.declared.time.Time.{Time}
use Rattle.tc_capture.specs.Order.{number}
use Rattle.tc_capture.specs.Outcome.{Outcome, seen, then_read}
use Rattle.tc_capture.specs.Time.{time_of}
use Rattle.tc_capture.specs.Packet.{Captured, link_of}
use Rattle.tc_capture.specs.Options.{units_in, shift_in, later}
use Rattle.tc_capture.specs.Front.{Front}

pub record Block : Type 0 where
  pub order : Order
  pub kind : ℕ
  pub body : List ℕ

-- the byte order, from the magic number at 8 of a section header block
abbrev pub order_at : List ℕ → Outcome Order
order_at bytes =
    if number Little 4 (drop 8 bytes) == 0x1a2b3c4d then Ok Little else
    if number Big 4 (drop 8 bytes) == 0x1a2b3c4d then Ok Big else Err NoByteOrder

-- the byte order of the block at the front, in a section of this order
abbrev pub block_order : Order → List ℕ → Outcome Order
block_order order bytes = if number Little 4 bytes == 0x0a0d0d0a then order_at bytes else Ok order

-- the block of n bytes
abbrev pub block_of_length : ℕ → Order → List ℕ → Block
block_of_length n order bytes = record { order = order; kind = number order 4 bytes; body = drop 8 (take (n - 4) bytes) }

-- the block at the front, in this order
unfoldable pub block_in : Order → List ℕ → Outcome Block
block_in order bytes =
    let long = number order 4 (drop 4 bytes) in
    let end = number order 4 (drop (long - 4) bytes) in
    if nat_lt long 12 then Err (BlockLength long) else
    if nat_lt 0 (long % 4) then Err (BlockLength long) else
    if nat_lt (length bytes) long then Err (Short long (length bytes)) else
    if end == long then Ok (block_of_length long order bytes) else Err (BlockEnd long end)

-- the block at the front
unfoldable pub next_block : Order → List ℕ → Outcome Block
next_block order bytes =
    if nat_lt (length bytes) 12 then Err (Short 12 (length bytes)) else
    then_read (block_order order bytes) (λ o. block_in o bytes)

-- the interface that the body of a block describes: the link type at 0 (two bytes), the snaplen at 4 (four bytes),
-- options from 8
abbrev pub interface_in : Order → List ℕ → Outcome Interface
interface_in order body =
    if nat_lt (length body) 8 then Err (BodyTooShort 8 (length body)) else
    Ok (record {
      link = link_of (number order 2 body);
      most = number order 4 (drop 4 body);
      units = units_in order (drop 8 body);
      shift = shift_in order (drop 8 body);
    })

-- the interface with a number, among those that are described; one that can't be read keeps its place
abbrev pub described : ℕ → Option (Option Interface) → Outcome Interface
described n (Some (Some interface)) = Ok interface
described n (Some None) = Err (NoInterface n)
described n None = Err (NoInterface n)

abbrev pub interface_at : List (Option Interface) → ℕ → Outcome Interface
interface_at interfaces n = described n (slice_get interfaces n)

-- the time after some time units, shifted by some seconds
abbrev pub time_by : ℕ → Option ℕ → Option ℕ → Option Time
time_by ticks (Some units) (Some shift) = if nat_lt 0 units then later shift (time_of ticks units) else None
time_by ticks (Some units) None = None
time_by ticks None shift = None

abbrev pub time_after : ℕ → Interface → Option Time
time_after ticks interface = time_by ticks interface.units interface.shift

-- the packet of n bytes at an offset in a body
abbrev pub held_in : Interface → Option Time → Bool → ℕ → ℕ → List ℕ → Outcome Captured
held_in interface time is_whole place n body =
    if nat_lt (length body) (place + n) then Err (BodyTooShort (place + n) (length body)) else
    Ok (record { time = time; link = interface.link; is_whole = is_whole; at = 8 + place; bytes = drop place (take (place + n) body) })

-- an enhanced packet block: the interface at 0, the time at 4, higher half first, the number of bytes in the file at
-- 12, the number of bytes on the wire at 16, four bytes each, and the bytes at 20. In the older packet block, the
-- interface is a number of two bytes.
abbrev pub timed_of : Interface → Order → List ℕ → Outcome Captured
timed_of interface order body =
    let n = number order 4 (drop 12 body) in
    let ticks = number order 4 (drop 4 body) * 2 ^ 32 + number order 4 (drop 8 body) in
    held_in interface (time_after ticks interface) (nat_le (number order 4 (drop 16 body)) n) 20 n body

abbrev pub timed_packet : ℕ → List (Option Interface) → Order → List ℕ → Outcome Captured
timed_packet width interfaces order body =
    if nat_lt (length body) 20 then Err (BodyTooShort 20 (length body)) else
    then_read (interface_at interfaces (number order width body)) (λ interface. timed_of interface order body)

-- the number of bytes kept of a packet; 0 is all
abbrev pub kept_of : ℕ → ℕ → ℕ
kept_of most n = if most == 0 then n else min n most

-- a simple packet block, of the first interface: the number of bytes on the wire at 0 (four bytes), and the bytes at 4
abbrev pub simple_packet : List (Option Interface) → Order → List ℕ → Outcome Captured
simple_packet interfaces order body =
    if nat_lt (length body) 4 then Err (BodyTooShort 4 (length body)) else
    then_read (interface_at interfaces 0) (λ i.
    let n = number order 4 body in
    held_in i None (nat_le n (kept_of i.most n)) 4 (kept_of i.most n) body)

-- the state of a section
pub record Section : Type 0 where
  pub order : Order
  pub interfaces : List (Option Interface)

-- a packet, or the reason why it can't be read
abbrev pub with_packet : Section → Outcome Captured → Outcome (Option Captured) × Section
with_packet s packet = (seen (λ p. Some p) packet, s)

-- adds an interface; one that can't be read has a place too, so that those after it keep their numbers
abbrev pub one_more : Section → Option Interface → Section
one_more s interface = record { order = s.order; interfaces = s.interfaces ++ interface ∷ [] }

abbrev pub with_read : Section → Outcome Interface → Outcome (Option Captured) × Section
with_read s (Ok interface) = (Ok None, one_more s (Some interface))
with_read s (Err e) = (Err e, one_more s None)

abbrev pub with_interface : Section → Outcome Interface → Outcome (Option Captured) × Section
with_interface s interface = if length s.interfaces == 64 then (Err TooManyInterfaces, s) else with_read s interface

abbrev pub new_section : Block → Outcome (Option Captured) × Section
new_section b =
    let section : Section = record { order = b.order; interfaces = [] } in
    if nat_lt (length b.body) 16 then (Err (BodyTooShort 16 (length b.body)), section) else (Ok None, section)

-- the effect of a block: a packet, or a change of the section; other blocks are ignored
unfoldable pub effect_of : Section → Block → Outcome (Option Captured) × Section
effect_of s b =
    if b.kind == 0x0a0d0d0a then new_section b else
    if b.kind == 1 then with_interface s (interface_in s.order b.body) else
    if b.kind == 2 then with_packet s (timed_packet 2 s.interfaces s.order b.body) else
    if b.kind == 3 then with_packet s (simple_packet s.interfaces s.order b.body) else
    if b.kind == 6 then with_packet s (timed_packet 4 s.interfaces s.order b.body) else (Ok None, s)

-- the block at the front, and the section after it; if a block is whole, a fault in it doesn't hide the next block
unfoldable pub next_in_section : Section → List ℕ → Outcome (Front × Section)
next_in_section s bytes =
    then_read (next_block s.order bytes) (λ b.
    let effect = effect_of s b in
    Ok (record { used = 12 + length b.body; packet = effect.0 }, effect.1))

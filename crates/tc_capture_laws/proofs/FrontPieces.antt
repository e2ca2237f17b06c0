-- The piece at the front of some bytes: its length, and the place of its packet.
use Rattle.std.proofs.Common.{◌≡◌, ℕ, ◌+◌, ◌-◌, ◌<◌, ◌≤◌, List, length, take, drop, Option, None, Some, Ok, Err, Bool, true, false, refl, sym, ap, subst, ◌∙◌}
use Rattle.std.proofs.Common.{arith}
use Rattle.std.specs.Prelude.{nat_lt, nat_le, ◌==◌, ◌%◌, if◌then◌else◌}
use Rattle.std.proofs.lemmas.Bool.{ltb-false}
use Rattle.std.proofs.lemmas.List.{length-take, length-drop, take_all, take-take, drop-take, drop-drop}
use Rattle.tc_capture.specs.declared.error.CaptureError.{CaptureError}
use Rattle.tc_capture.specs.declared.error.CaptureError.TheVariants.{Short, MessageTooShort, BlockLength, BlockEnd}
use Rattle.tc_capture.specs.declared.order.Order.{Order}
use Rattle.tc_capture.specs.declared.pcap.Pcap.{Pcap as PcapFile}
use Rattle.tc_capture.specs.declared.pcap.Variant.{Variant}
use Rattle.tc_capture.specs.declared.pcap.Variant.TheVariants.{Microseconds, Nanoseconds, Modified}
use Rattle.tc_capture.specs.declared.pcapng.interface.Interface.{Interface}
use Rattle.tc_capture.specs.declared.time.Time.{Time}
use Rattle.tc_capture.specs.Outcome.{Outcome, seen, then_read}
use Rattle.tc_capture.specs.Packet.{Captured}
use Rattle.tc_capture.specs.Front.{Front}
use Rattle.tc_capture.specs.Message.{length_at, padding}
use Rattle.tc_capture.specs.Order.{number}
use Rattle.tc_capture.specs.Stream.{is_time, front_of_length, next_in_stream}
use Rattle.tc_capture.specs.Pcap.{magic_at, header_with, record_header_len, packet_of_length, pcap_header, next_in_pcap}
use Rattle.tc_capture.specs.PcapNg.{Section, Block, block_order, block_of_length, block_in, next_block, interface_in, interface_at, held_in, timed_of}
use Rattle.tc_capture.specs.PcapNg.{timed_packet, kept_of, simple_packet, with_interface, new_section, effect_of, next_in_section}
use Rattle.tc_capture_laws.specs.Fronts.{HoldsPacket, IsFront}
use Rattle.tc_capture.specs.Capture.{State, in_stream, before_header, in_pcap, in_section, next_piece}

-- a test before an error was not so
pub passes : {X : Type 0} (b : Bool) (e : CaptureError) (o : Outcome X) (x : X) → (if b then Err e else o) ≡ Ok x → (b ≡ false) × (o ≡ Ok x)
passes true e o x is = absurd cc
passes false e o x is = (refl, is)

-- the whole of some bytes is their first part, of their length
whole : (bytes : List ℕ) → bytes ≡ take (length bytes) bytes
whole bytes = sym (take_all (length bytes) bytes (omega arith))

-- ---- a stream

stream_front : (b : Bool) (n : ℕ) (time : Option Time) (bytes : List ℕ) → is_time bytes ≡ b → 0 < n → n ≤ length bytes
    → IsFront bytes (front_of_length n time bytes).0
stream_front true n time bytes is some within = rw is (record { some = some; within = within; packet = tt })
stream_front false n time bytes is some within = rw is (record { some = some; within = within; packet = whole (take n bytes) })

stream-is : (time : Option Time) (bytes : List ℕ) (x : Front × Option Time) → next_in_stream time bytes ≡ Ok x → IsFront bytes x.0
unfolding next_in_stream
stream-is time bytes x is =
    let long = length_at bytes in
    let whole = long + padding long in
    let rest3 : Outcome (Front × Option Time) = Ok (front_of_length whole time bytes) in
    let rest2 : Outcome (Front × Option Time) = if nat_lt (length bytes) whole then Err (Short whole (length bytes)) else rest3 in
    let rest1 : Outcome (Front × Option Time) = if nat_lt long 16 then Err (MessageTooShort long) else rest2 in
    let header = passes (nat_lt (length bytes) 16) (Short 16 (length bytes)) rest1 x is in
    let enough = passes (nat_lt long 16) (MessageTooShort long) rest2 x header.1 in
    let all = passes (nat_lt (length bytes) whole) (Short whole (length bytes)) rest3 x enough.1 in
    let long16 : 16 ≤ long = ltb-false _ _ enough.0 in
    let within : whole ≤ length bytes = ltb-false _ _ all.0 in
    let same : front_of_length whole time bytes ≡ x = cc in
    subst (λ (y : Front × Option Time). IsFront bytes y.0) same (stream_front (is_time bytes) whole time bytes refl (omega arith) within)

-- ---- pcap

pcap-is : (file : PcapFile) (bytes : List ℕ) (front : Front) → next_in_pcap file bytes ≡ Ok front → IsFront bytes front
unfolding next_in_pcap
pcap-is file bytes front is =
    let header = record_header_len file.variant in
    let n = number file.order 4 (drop 8 bytes) in
    let read : Outcome Front = Ok (record { used = header + n; packet = Ok (Some (packet_of_length file n bytes)) }) in
    let rest : Outcome Front = if nat_lt (length bytes) (header + n) then Err (Short (header + n) (length bytes)) else read in
    let enough = passes (nat_lt (length bytes) header) (Short header (length bytes)) rest front is in
    let all = passes (nat_lt (length bytes) (header + n)) (Short (header + n) (length bytes)) read front enough.1 in
    let within : header + n ≤ length bytes = ltb-false _ _ all.0 in
    let some : 0 < header = pcap-header file.variant in
    let same : record { used = header + n; packet = Ok (Some (packet_of_length file n bytes)) } ≡ front = cc in
    subst (IsFront bytes) same (record { some = omega arith; within = within; packet = whole (drop header (take (header + n) bytes)) })
  where
    pcap-header : (variant : Variant) → 0 < record_header_len variant
    pcap-header Microseconds = omega arith
    pcap-header Nanoseconds = omega arith
    pcap-header Modified = omega arith

header-is : (bytes : List ℕ) (file : PcapFile) → pcap_header bytes ≡ Ok file → IsFront bytes (record { used = 24; packet = Ok None })
unfolding pcap_header
header-is bytes file is =
    let enough = passes (nat_lt (length bytes) 24) (Short 24 (length bytes)) (header_with (magic_at bytes) bytes) file is in
    record { some = omega arith; within = ltb-false _ _ enough.0; packet = tt }

-- ---- pcapng

-- a packet in the body of a block, which begins at 8
abbrev pub InBody : List ℕ → Outcome (Option Captured) → Type 0
InBody body (Ok (Some p)) = (8 ≤ p.at) × (p.at + length p.bytes ≤ 8 + length body) × (p.bytes ≡ take (length p.bytes) (drop (p.at - 8) body))
InBody body (Ok None) = Unit {0}
InBody body (Err e) = Unit {0}

held-in : (interface : Interface) (time : Option Time) (is_whole : Bool) (place n : ℕ) (body : List ℕ) (b : Bool) → nat_lt (length body) (place + n) ≡ b
    → InBody body (seen (λ p. Some p) (held_in interface time is_whole place n body))
held-in interface time is_whole place n body true is = rw is tt
held-in interface time is_whole place n body false is =
    let within : place + n ≤ length body = ltb-false _ _ is in
    let len : length (drop place (take (place + n) body)) ≡ n = omega (arith, length-drop place (take (place + n) body), length-take (place + n) body) in
    let back : 8 + place - 8 ≡ place = omega arith in
    rw is (omega arith, omega arith, rw (len, back) (drop-take place n body))

-- what is read after a value that was read
then-in : {X : Type 0} (o : Outcome X) (f : X → Outcome Captured) (body : List ℕ) → ((x : X) → InBody body (seen (λ p. Some p) (f x)))
    → InBody body (seen (λ p. Some p) (then_read o f))
then-in (Ok x) f body each = each x
then-in (Err e) f body each = tt

timed-in : (width : ℕ) (interfaces : List (Option Interface)) (order : Order) (body : List ℕ) (b : Bool) → nat_lt (length body) 20 ≡ b
    → InBody body (seen (λ p. Some p) (timed_packet width interfaces order body))
timed-in width interfaces order body true is = rw is tt
timed-in width interfaces order body false is =
    rw is (then-in (interface_at interfaces (number order width body)) (λ (i : Interface). timed_of i order body) body
    (λ i. held-in i _ _ 20 (number order 4 (drop 12 body)) body _ refl))

simple-in : (interfaces : List (Option Interface)) (order : Order) (body : List ℕ) (b : Bool) → nat_lt (length body) 4 ≡ b
    → InBody body (seen (λ p. Some p) (simple_packet interfaces order body))
simple-in interfaces order body true is = rw is tt
simple-in interfaces order body false is =
    rw is (then-in (interface_at interfaces 0)
    (λ (i : Interface). let n = number order 4 body in held_in i None (nat_le n (kept_of i.most n)) 4 (kept_of i.most n) body) body
    (λ i. held-in i None _ 4 (kept_of i.most (number order 4 body)) body _ refl))

with-interface-in : (s : Section) (body : List ℕ) (read : Outcome Interface) (b : Bool) → (length s.interfaces == 64) ≡ b
    → InBody body (with_interface s read).0
with-interface-in s body read true is = rw is tt
with-interface-in s body (Ok interface) false is = rw is tt
with-interface-in s body (Err e) false is = rw is tt

new-section-in : (block : Block) (b : Bool) → nat_lt (length block.body) 16 ≡ b → InBody block.body (new_section block).0
new-section-in block true is = rw is tt
new-section-in block false is = rw is tt

-- one of two is said
either : (body : List ℕ) (b : Bool) (x y : Outcome (Option Captured) × Section) → InBody body x.0 → InBody body y.0 → InBody body (if b then x else y).0
either body true x y p q = p
either body false x y p q = q

said-in : (s : Section) (b : Block) → InBody b.body (effect_of s b).0
unfolding effect_of
said-in s b =
    let body = b.body in
    either body (b.kind == 0x0a0d0d0a) _ _ (new-section-in b _ refl)
    (either body (b.kind == 1) _ _ (with-interface-in s body (interface_in s.order body) _ refl)
    (either body (b.kind == 2) _ _ (timed-in 2 s.interfaces s.order body _ refl)
    (either body (b.kind == 3) _ _ (simple-in s.interfaces s.order body _ refl)
    (either body (b.kind == 6) _ _ (timed-in 4 s.interfaces s.order body _ refl) tt))))

-- a block that is read: its body is what is between its first eight bytes and its last four
pub record IsBlock (bytes : List ℕ) (b : Block) : Type 0 where
  pub within : 12 + length b.body ≤ length bytes
  pub body : b.body ≡ drop 8 (take (8 + length b.body) bytes)

block-in : (order : Order) (bytes : List ℕ) (b : Block) → block_in order bytes ≡ Ok b → IsBlock bytes b
unfolding block_in
block-in order bytes b is =
    let long = number order 4 (drop 4 bytes) in
    let end = number order 4 (drop (long - 4) bytes) in
    let last : Outcome Block = if end == long then Ok (block_of_length long order bytes) else Err (BlockEnd long end) in
    let rest2 : Outcome Block = if nat_lt (length bytes) long then Err (Short long (length bytes)) else last in
    let rest1 : Outcome Block = if nat_lt 0 (long % 4) then Err (BlockLength long) else rest2 in
    let enough = passes (nat_lt long 12) (BlockLength long) rest1 b is in
    let even = passes (nat_lt 0 (long % 4)) (BlockLength long) rest2 b enough.1 in
    let all = passes (nat_lt (length bytes) long) (Short long (length bytes)) last b even.1 in
    let same = ends (end == long) (Ok (block_of_length long order bytes)) (BlockEnd long end) b all.1 in
    let long12 : 12 ≤ long = ltb-false _ _ enough.0 in
    let within : long ≤ length bytes = ltb-false _ _ all.0 in
    let body : block_of_length long order bytes ≡ b = cc in
    let len : length (drop 8 (take (long - 4) bytes)) ≡ long - 12 = omega (arith, length-drop 8 (take (long - 4) bytes), length-take (long - 4) bytes) in
    let front : 8 + length (drop 8 (take (long - 4) bytes)) ≡ long - 4 = omega arith in
    subst (IsBlock bytes) body (record { within = omega arith; body = ap (λ (n : ℕ). drop 8 (take n bytes)) (sym front) })
  where
    ends : (t : Bool) (o : Outcome Block) (e : CaptureError) (b : Block) → (if t then o else Err e) ≡ Ok b → o ≡ Ok b
    ends true o e b is = is
    ends false o e b is = absurd cc

-- what is read after a value that was read, was read
pub then-ok : {X Y : Type 0} (o : Outcome X) (f : X → Outcome Y) (y : Y) → then_read o f ≡ Ok y → (x : X) × (o ≡ Ok x) × (f x ≡ Ok y)
then-ok (Ok x) f y is = (x, refl, is)
then-ok (Err e) f y is = absurd cc

next-block : (order : Order) (bytes : List ℕ) (b : Block) → next_block order bytes ≡ Ok b → IsBlock bytes b
unfolding next_block
next-block order bytes b is =
    let rest : Outcome Block = then_read (block_order order bytes) (λ o. block_in o bytes) in
    let enough = passes (nat_lt (length bytes) 12) (Short 12 (length bytes)) rest b is in
    let found = then-ok (block_order order bytes) (λ o. block_in o bytes) b enough.1 in
    block-in found.0 bytes b found.2

-- a packet in the body of a block is in the block
packet-in : (bytes body : List ℕ) (said : Outcome (Option Captured)) → 12 + length body ≤ length bytes → body ≡ drop 8 (take (8 + length body) bytes)
    → InBody body said → HoldsPacket (take (12 + length body) bytes) said
packet-in bytes body (Err e) within is inside = tt
packet-in bytes body (Ok None) within is inside = tt
packet-in bytes body (Ok (Some p)) within is (begins, ends, inside) =
    let place = p.at - 8 in
    let n = length p.bytes in
    let piece = take (12 + length body) bytes in
    let m = length body - place in
    let at : 8 + place ≡ p.at = omega arith in
    let len : 8 + length body ≡ p.at + m = omega arith in
    inside
    ∙ ap (λ (b : List ℕ). take n (drop place b)) is
    ∙ ap (take n) (drop-drop place 8 (take (8 + length body) bytes))
    ∙ ap (λ (k : ℕ). take n (drop k (take (8 + length body) bytes))) at
    ∙ ap (λ (b : List ℕ). take n (drop p.at b)) (sym (take-take (8 + length body) (12 + length body) bytes (omega arith)))
    ∙ ap (λ (k : ℕ). take n (drop p.at (take k piece))) len
    ∙ ap (take n) (drop-take p.at m piece)
    ∙ take-take n m (drop p.at piece) (omega arith)

section-is : (s : Section) (bytes : List ℕ) (x : Front × Section) → next_in_section s bytes ≡ Ok x → IsFront bytes x.0
unfolding next_in_section
section-is s bytes x is =
    let found = then-ok (next_block s.order bytes) (λ (b : Block). let said = effect_of s b in Ok
    (record { used = 12 + length b.body; packet = said.0 }, said.1)) x is in
    let b = found.0 in
    let block = next-block s.order bytes b found.1 in
    let same : (record { used = 12 + length b.body; packet = (effect_of s b).0 }, (effect_of s b).1) ≡ x = cc in
    subst (λ (y : Front × Section). IsFront bytes y.0) same
    (record { some = omega arith; within = block.within; packet = packet-in bytes b.body (effect_of s b).0 block.within block.body (said-in s b) })

-- ---- all of them

pub front-is : (s : State) (bytes : List ℕ) (next : Front × State) → next_piece s bytes ≡ Ok next → IsFront bytes next.0
front-is (in_stream time) bytes next is =
    let found = then-ok (next_in_stream time bytes) (λ (x : Front × Option Time). Ok (x.0, in_stream x.1)) next is in
    let same : found.0.0 ≡ next.0 = cc in
    subst (IsFront bytes) same (stream-is time bytes found.0 found.1)
front-is before_header bytes next is =
    let found = then-ok (pcap_header bytes) (λ (file : PcapFile). Ok (record { used = 24; packet = Ok None }, in_pcap file)) next is in
    let same : record { used = 24; packet = Ok None } ≡ next.0 = cc in
    subst (IsFront bytes) same (header-is bytes found.0 found.1)
front-is (in_pcap file) bytes next is =
    let found = then-ok (next_in_pcap file bytes) (λ (front : Front). Ok (front, in_pcap file)) next is in
    let same : found.0 ≡ next.0 = cc in
    subst (IsFront bytes) same (pcap-is file bytes found.0 found.1)
front-is (in_section s) bytes next is =
    let found = then-ok (next_in_section s bytes) (λ (x : Front × Section). Ok (x.0, in_section x.1)) next is in
    let same : found.0.0 ≡ next.0 = cc in
    subst (IsFront bytes) same (section-is s bytes found.0 found.1)

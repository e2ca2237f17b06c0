-- A written pcapng file is read.
use Rattle.std.proofs.Common.{◌≡◌, ℕ, ◌+◌, ◌-◌, ◌*◌, ◌/◌, ◌%◌, ◌^◌, ◌<◌, ◌≤◌, List, [], ◌∷◌, ◌++◌, All, length, take, drop, map, Option, Some, None, Ok, Err}
use Rattle.std.proofs.Common.{Bool, true, false, refl, sym, ap, ap₂, ◌∙◌, arith}
use Rattle.std.specs.Prelude.{nat_lt, nat_le, ◌==◌, replicate, if◌then◌else◌}
use Rattle.std.specs.List.{flat_map}
use Rattle.std.proofs.lemmas.Bool.{lt-ltb, le-ltb, le-leb, eq-eqb}
use Rattle.std.proofs.lemmas.List.{append_assoc, length-append, length-replicate, take_at, drop_at, drop-take, drop-drop}
use Rattle.std.proofs.lemmas.List.Elements.{All-head, All-tail}
use Rattle.tc_capture.specs.declared.error.CaptureError.TheVariants.{Short, BlockLength, BlockEnd, BodyTooShort}
use Rattle.tc_capture.specs.declared.order.Order.{Order}
use Rattle.tc_capture.specs.declared.order.Order.TheVariants.{Little, Big}
use Rattle.tc_capture.specs.declared.packet.Link.TheVariants.{Cooked}
use Rattle.tc_capture.specs.declared.pcapng.interface.Interface.{Interface}
use Rattle.tc_capture.specs.declared.time.Time.{Time}
use Rattle.tc_capture.specs.Outcome.{Outcome, then_read}
use Rattle.tc_capture.specs.Order.{number}
use Rattle.tc_capture.specs.Entries.{entry_up_to, entry_in}
use Rattle.tc_capture.specs.Options.{with_seconds, later}
use Rattle.tc_capture.specs.Message.{padding}
use Rattle.tc_capture.specs.Packet.{Captured}
use Rattle.tc_capture.specs.Front.{Front}
use Rattle.tc_capture.specs.PcapNg.{Block, Section, block_order, block_of_length, block_in, next_block, interface_at, time_after, held_in, timed_of}
use Rattle.tc_capture.specs.PcapNg.{timed_packet, with_packet, effect_of, next_in_section}
use Rattle.tc_capture.specs.Capture.{in_section}
use Rattle.tc_capture_laws.specs.Pieces.{pieces_up_to, pieces_in}
use Rattle.tc_capture_laws.specs.Reading.{Read, read_in, reading}
use Rattle.tc_capture_laws.specs.Files.{Packet, IsPacket, zeros, padded, packet_bytes, as_read, number_bytes, block, section_header, interface}
use Rattle.tc_capture_laws.specs.Files.{enhanced_packet, pcapng_file}
use Rattle.tc_capture_laws.proofs.Numbers.{number-number_bytes, time_of-nanoseconds}
use Rattle.tc_capture_laws.proofs.Steps.{step, ends, captured, packet-read}

-- a block that begins some bytes is read of them
read-block : (old order : Order) (kind : ℕ) (body bytes more : List ℕ) → block_order old bytes ≡ Ok order
    → drop 8 bytes ≡ body ++ (number_bytes order 4 (12 + length body) ++ more) → number order 4 bytes ≡ kind → number order 4 (drop 4 bytes) ≡ 12 + length body
    → 12 + length body < 2 ^ 32 → length body % 4 ≡ 0 → 12 + length body ≤ length bytes
    → next_block old bytes ≡ Ok (record { order = order; kind = kind; body = body })
unfolding next_block block_in
read-block old order kind body bytes more ordered after kinds long small even within =
    let n = length body in
    let all = 12 + n in
    let found : Outcome Block = then_read (block_order old bytes) (λ o. block_in o bytes) in
    let enough : nat_lt (length bytes) 12 ≡ false = le-ltb (length bytes) 12 (omega arith) in
    let short : nat_lt all 12 ≡ false = le-ltb all 12 (omega arith) in
    let odd : nat_lt 0 (all % 4) ≡ false = le-ltb 0 (all % 4) (omega arith) in
    let cut : nat_lt (length bytes) all ≡ false = le-ltb (length bytes) all within in
    let before : all - 4 ≡ 8 + n = omega arith in
    let tail : drop (all - 4) bytes ≡ number_bytes order 4 all ++ more =
    ap (λ (k : ℕ). drop k bytes) before ∙ sym (drop-drop n 8 bytes) ∙ ap (drop n) after ∙ drop_at body (number_bytes order 4 all ++ more) n refl in
    let end : number order 4 (drop (all - 4) bytes) ≡ all = ap (number order 4) tail ∙ number-number_bytes order 4 all more small in
    let front : drop 8 (take (all - 4) bytes) ≡ body =
    ap (λ (k : ℕ). drop 8 (take k bytes)) before ∙ drop-take 8 n bytes ∙ ap (take n) after ∙ take_at body (number_bytes order 4 all ++ more) n refl in
    let made : block_of_length all order bytes ≡ record { order = order; kind = kind; body = body } =
    ap₂ (λ (k : ℕ) (b : List ℕ). record { order = order; kind = k; body = b }) kinds front in
    ap (λ (b : Bool). if b then Err (Short 12 (length bytes)) else found) enough
    ∙ ap (λ (o : Outcome Order). then_read o (λ o. block_in o bytes)) ordered
    ∙ ap (λ (l : ℕ). given l (number order 4 (drop (l - 4) bytes)) (nat_lt l 12) (nat_lt 0 (l % 4)) (nat_lt (length bytes) l)
    (number order 4 (drop (l - 4) bytes) == l) (block_of_length l order bytes)) long
    ∙ ap (λ (e : ℕ). given all e (nat_lt all 12) (nat_lt 0 (all % 4)) (nat_lt (length bytes) all) (e == all) (block_of_length all order bytes)) end
    ∙ ap₂ (λ (a b : Bool). given all all a b (nat_lt (length bytes) all) (all == all) (block_of_length all order bytes)) short odd
    ∙ ap₂ (λ (c d : Bool). given all all false false c d (block_of_length all order bytes)) cut (eq-eqb all all refl)
    ∙ ap (given all all false false false true) made
  where
    given : ℕ → ℕ → Bool → Bool → Bool → Bool → Block → Outcome Block
    given l e a b c d x =
        if a then Err (BlockLength l) else if b then Err (BlockLength l) else if c then Err (Short l (length bytes)) else if d then Ok x else Err (BlockEnd l e)

length-block : (order : Order) (kind : ℕ) (body : List ℕ) → length (block order kind body) ≡ 12 + length body
length-block Little kind body = omega (arith, length-append body (number_bytes Little 4 (12 + length body)))
length-block Big kind body = omega (arith, length-append body (number_bytes Big 4 (12 + length body)))

next_block-block : (old order : Order) (kind : ℕ) (body more : List ℕ) → kind < 2 ^ 32 → 12 + length body < 2 ^ 32 → length body % 4 ≡ 0
    → block_order old (block order kind body ++ more) ≡ Ok order
    → next_block old (block order kind body ++ more) ≡ Ok (record { order = order; kind = kind; body = body })
next_block-block old Little kind body more fits small even ordered =
    let tail = number_bytes Little 4 (12 + length body) in
    read-block old Little kind body (block Little kind body ++ more) more ordered (append_assoc body tail more)
    (number-number_bytes Little 4 kind [] fits) (number-number_bytes Little 4 (12 + length body) [] small) small even
    (omega (arith, length-block Little kind body, length-append (block Little kind body) more))
next_block-block old Big kind body more fits small even ordered =
    let tail = number_bytes Big 4 (12 + length body) in
    read-block old Big kind body (block Big kind body ++ more) more ordered (append_assoc body tail more)
    (number-number_bytes Big 4 kind [] fits) (number-number_bytes Big 4 (12 + length body) [] small) small even
    (omega (arith, length-block Big kind body, length-append (block Big kind body) more))

-- the interface, and the section that has described it
abbrev pub netlink : Interface
netlink = record { link = Cooked; most = 0; units = Some 1000000000; shift = Some 0 }

abbrev pub new : Order → Section
new order = record { order = order; interfaces = [] }

abbrev pub described : Order → Section
described order = record { order = order; interfaces = Some netlink ∷ [] }

time_after-netlink : (time : Time) → time.seconds < 2 ^ 32 → time.nanoseconds < 10 ^ 9
    → time_after (time.seconds * 1000000000 + time.nanoseconds) netlink ≡ Some time
time_after-netlink time seconds nanoseconds =
    let fits : nat_lt (time.seconds + 0) (2 ^ 64) ≡ true = lt-ltb (time.seconds + 0) (2 ^ 64) (omega arith) in
    let none : time.seconds + 0 ≡ time.seconds = omega arith in
    ap (later 0) (time_of-nanoseconds time nanoseconds)
    ∙ ap (λ (b : Bool). with_seconds time (if b then Some (time.seconds + 0) else None)) fits
    ∙ ap (λ (s : ℕ). Some (record { seconds = s; nanoseconds = time.nanoseconds })) none

-- the body of an enhanced packet block
read-body : (order : Order) (p : Packet) (body following : List ℕ) → number order 4 body ≡ 0 → drop 20 body ≡ packet_bytes p ++ following
    → (high low : ℕ) → number order 4 (drop 4 body) ≡ high → number order 4 (drop 8 body) ≡ low
    → high * 2 ^ 32 + low ≡ p.time.seconds * 1000000000 + p.time.nanoseconds
    → number order 4 (drop 12 body) ≡ length (packet_bytes p) → number order 4 (drop 16 body) ≡ length (packet_bytes p)
    → 20 + length (packet_bytes p) ≤ length body
    → p.time.seconds < 2 ^ 32 → p.time.nanoseconds < 10 ^ 9
    → timed_packet 4 (Some netlink ∷ []) order body ≡ Ok (captured p.time (packet_bytes p) 28)
read-body order p body following first after high low highs lows ticks here there within seconds nanoseconds =
    let n = length (packet_bytes p) in
    let header : nat_lt (length body) 20 ≡ false = le-ltb (length body) 20 (omega arith) in
    let cut : nat_lt (length body) (20 + n) ≡ false = le-ltb (length body) (20 + n) within in
    let whole : nat_le n n ≡ true = le-leb n n (omega arith) in
    let held : drop 20 (take (20 + n) body) ≡ packet_bytes p = drop-take 20 n body ∙ ap (take n) after ∙ take_at (packet_bytes p) following n refl in
    ap (λ (b : Bool). if b then Err (BodyTooShort 20 (length body)) else then_read (interface_at (Some netlink ∷ []) (number order 4 body))
    (λ i. timed_of i order body)) header
    ∙ ap (λ (k : ℕ). then_read (interface_at (Some netlink ∷ []) k) (λ i. timed_of i order body)) first
    ∙ ap₂ (λ (l o : ℕ). held_in netlink (time_after (number order 4 (drop 4 body) * 2 ^ 32 + number order 4 (drop 8 body)) netlink)
    (nat_le o l) 20 l body) here there
    ∙ ap₂ (λ (h l : ℕ). held_in netlink (time_after (h * 2 ^ 32 + l) netlink) (nat_le n n) 20 n body) highs lows
    ∙ ap (λ (t : ℕ). held_in netlink (time_after t netlink) (nat_le n n) 20 n body) ticks
    ∙ ap₂ (λ (t : Option Time) (w : Bool). held_in netlink t w 20 n body) (time_after-netlink p.time seconds nanoseconds) whole
    ∙ ap₂ (λ (b : Bool) (d : List ℕ). if b then Err (BodyTooShort (20 + n) (length body)) else Ok
    (record { time = Some p.time; link = Cooked; is_whole = true; at = 28; bytes = d })) cut held

abbrev pub packet_body : Order → Packet → List ℕ
packet_body order p =
    let bytes = packet_bytes p in
    let ticks = p.time.seconds * 10 ^ 9 + p.time.nanoseconds in
    number_bytes order 4 0 ++ number_bytes order 4 (ticks / 2 ^ 32) ++ number_bytes order 4 (ticks % 2 ^ 32)
    ++ number_bytes order 4 (length bytes) ++ number_bytes order 4 (length bytes) ++ padded bytes

length-packet_body : (order : Order) (p : Packet) → length (packet_body order p) ≡ 20 + length (packet_bytes p) + padding (length (packet_bytes p))
length-packet_body Little p =
    let n = length (packet_bytes p) in
    omega (arith, length-append (packet_bytes p) (zeros (padding n)), length-replicate {A = ℕ} (padding n) 0)
length-packet_body Big p =
    let n = length (packet_bytes p) in
    omega (arith, length-append (packet_bytes p) (zeros (padding n)), length-replicate {A = ℕ} (padding n) 0)

timed-body : (order : Order) (p : Packet) (most : ℕ) → IsPacket most p → most < 2 ^ 32
    → timed_packet 4 (Some netlink ∷ []) order (packet_body order p) ≡ Ok (captured p.time (packet_bytes p) 28)
timed-body Little p most is small =
    let n = length (packet_bytes p) in
    let ticks = p.time.seconds * 1000000000 + p.time.nanoseconds in
    let within = is.length in
    let seconds = is.seconds in
    let nanoseconds = is.nanoseconds in
    read-body Little p (packet_body Little p) (zeros (padding n)) refl refl (ticks / 2 ^ 32) (ticks % 2 ^ 32)
    (number-number_bytes Little 4 (ticks / 2 ^ 32) [] (omega arith)) (number-number_bytes Little 4 (ticks % 2 ^ 32) [] (omega arith)) (omega arith)
    (number-number_bytes Little 4 n [] (omega arith)) (number-number_bytes Little 4 n [] (omega arith))
    (omega (arith, length-packet_body Little p)) seconds nanoseconds
timed-body Big p most is small =
    let n = length (packet_bytes p) in
    let ticks = p.time.seconds * 1000000000 + p.time.nanoseconds in
    let within = is.length in
    let seconds = is.seconds in
    let nanoseconds = is.nanoseconds in
    read-body Big p (packet_body Big p) (zeros (padding n)) refl refl (ticks / 2 ^ 32) (ticks % 2 ^ 32)
    (number-number_bytes Big 4 (ticks / 2 ^ 32) [] (omega arith)) (number-number_bytes Big 4 (ticks % 2 ^ 32) [] (omega arith)) (omega arith)
    (number-number_bytes Big 4 n [] (omega arith)) (number-number_bytes Big 4 n [] (omega arith)) (omega (arith, length-packet_body Big p)) seconds nanoseconds

-- what a section is after a block
abbrev pub after_block : Section → Block → Outcome (Front × Section)
after_block s b = let said = effect_of s b in Ok (record { used = 12 + length b.body; packet = said.0 }, said.1)

-- blocks of these types are in the order of their section
in_section_order : (order : Order) (body more : List ℕ) → block_order order (block order 6 body ++ more) ≡ Ok order
in_section_order Little body more = refl
in_section_order Big body more = refl

next-packet : (order : Order) (p : Packet) (most : ℕ) (more : List ℕ) → IsPacket most p → most + 35 < 2 ^ 32
    → next_in_section (described order) (enhanced_packet order p ++ more)
    ≡ Ok (record { used = 12 + length (packet_body order p); packet = Ok (Some (captured p.time (packet_bytes p) 28)) }, described order)
unfolding next_in_section effect_of
next-packet order p most more is small =
    let within = is.length in
    let len = length-packet_body order p in
    ap (λ (o : Outcome Block). then_read o (after_block (described order)))
    (next_block-block order order 6 (packet_body order p) more (omega arith) (omega (arith, len)) (omega (arith, len))
    (in_section_order order (packet_body order p) more))
    ∙ ap (λ (o : Outcome Captured). Ok (
      record { used = 12 + length (packet_body order p); packet = (with_packet (described order) o).0 },
      (with_packet (described order) o).1,
    ))
    (timed-body order p most is (omega arith))

packets-read : (order : Order) (longest most : ℕ) (packets : List Packet) → longest + 35 ≤ most → most < 2 ^ 32 → All (IsPacket longest) packets
    → (n : ℕ) → length (flat_map (enhanced_packet order) packets) ≤ n
    → read_in (pieces_up_to n most (in_section (described order)) (flat_map (enhanced_packet order) packets)) ≡ map as_read packets
packets-read order longest most [] room small all n few = ends n most (in_section (described order))
packets-read order longest most (p ∷ packets) room small all n few =
    let is = All-head (IsPacket longest) p packets all in
    let within = is.length in
    let body = length-packet_body order p in
    let len = length-block order 6 (packet_body order p) in
    step most n (in_section (described order)) (in_section (described order)) (enhanced_packet order p) (flat_map (enhanced_packet order) packets)
    (Ok (Some (captured p.time (packet_bytes p) 28))) (map as_read packets) (omega (arith, len)) (omega (arith, len, body)) few
    (λ x. ap (λ (o : Outcome (Front × Section)). then_read o (λ (y : Front × Section). Ok (y.0, in_section y.1)))
    (next-packet order p longest x is (omega arith))
    ∙ ap (λ (k : ℕ). Ok (record { used = k; packet = Ok (Some (captured p.time (packet_bytes p) 28)) }, in_section (described order))) (sym len))
    (λ m less. packets-read order longest most packets room small (All-tail (IsPacket longest) p packets all) m less)
    ∙ ap (λ (r : Read). r ∷ map as_read packets) ((packet-read longest p (omega arith) is).read 28)

abbrev pub section_body : Order → List ℕ
section_body order = number_bytes order 4 0x1a2b3c4d ++ number_bytes order 2 1 ++ number_bytes order 2 0 ++ replicate 8 255

abbrev pub interface_body : Order → List ℕ
interface_body order =
    number_bytes order 2 253 ++ zeros 2 ++ number_bytes order 4 0 ++ number_bytes order 2 9 ++ number_bytes order 2 1 ++ padded (9 ∷ []) ++ zeros 4

next-section : (order : Order) (more : List ℕ)
    → next_in_section (new Little) (section_header order ++ more) ≡ Ok (record { used = 28; packet = Ok None }, new order)
unfolding next_in_section effect_of
next-section Little more =
    ap (λ (o : Outcome Block). then_read o (after_block (new Little))) (next_block-block Little Little 0x0a0d0d0a (section_body Little) more (omega arith)
    (omega arith) refl refl)
next-section Big more =
    ap (λ (o : Outcome Block). then_read o (after_block (new Little))) (next_block-block Little Big 0x0a0d0d0a (section_body Big) more (omega arith)
    (omega arith) refl refl)

next-interface : (order : Order) (more : List ℕ)
    → next_in_section (new order) (interface order ++ more) ≡ Ok (record { used = 32; packet = Ok None }, described order)
unfolding next_in_section effect_of entry_in entry_up_to
next-interface Little more =
    ap (λ (o : Outcome Block). then_read o (after_block (new Little))) (next_block-block Little Little 1 (interface_body Little) more (omega arith)
    (omega arith) refl refl)
next-interface Big more =
    ap (λ (o : Outcome Block). then_read o (after_block (new Big))) (next_block-block Big Big 1 (interface_body Big) more (omega arith) (omega arith) refl refl)

file-read : (order : Order) (longest most : ℕ) (packets : List Packet) → longest + 35 ≤ most → most < 2 ^ 32 → All (IsPacket longest) packets → 32 ≤ most
    → (n : ℕ) → length (section_header order ++ (interface order ++ flat_map (enhanced_packet order) packets)) ≤ n
    → length (section_header order) ≡ 28 → length (interface order) ≡ 32
    → read_in (pieces_up_to n most (in_section (new Little)) (section_header order ++ (interface order ++ flat_map (enhanced_packet order) packets)))
    ≡ map as_read packets
file-read order longest most packets room small all least n few len28 len32 =
    let blocks = flat_map (enhanced_packet order) packets in
    step most n (in_section (new Little)) (in_section (new order)) (section_header order) (interface order ++ blocks) (Ok None) (map as_read packets)
    (omega (arith, len28)) (omega (arith, len28)) few
    (λ x. ap (λ (o : Outcome (Front × Section)). then_read o (λ (y : Front × Section). Ok (y.0, in_section y.1))) (next-section order x)
    ∙ ap (λ (k : ℕ). Ok (record { used = k; packet = Ok None }, in_section (new order))) (sym len28))
    (λ m less. step most m (in_section (new order)) (in_section (described order)) (interface order) blocks (Ok None) (map as_read packets)
    (omega (arith, len32)) (omega (arith, len32)) less
    (λ x. ap (λ (o : Outcome (Front × Section)). then_read o (λ (y : Front × Section). Ok (y.0, in_section y.1))) (next-interface order x)
    ∙ ap (λ (k : ℕ). Ok (record { used = k; packet = Ok None }, in_section (described order))) (sym len32))
    (λ k fewer. packets-read order longest most packets room small all k fewer))

pub pcapng-read : (order : Order) (longest most : ℕ) (packets : List Packet) → longest + 35 ≤ most → most < 2 ^ 32 → 32 ≤ most → All (IsPacket longest) packets
    → reading most (pcapng_file order packets) ≡ Some (map as_read packets)
unfolding pieces_in
pcapng-read Little longest most packets room small least all =
    ap (λ (r : List Read). Some r) (file-read Little longest most packets room small all least _ (omega arith) refl refl)
pcapng-read Big longest most packets room small least all =
    ap (λ (r : List Read). Some r) (file-read Big longest most packets room small all least _ (omega arith) refl refl)

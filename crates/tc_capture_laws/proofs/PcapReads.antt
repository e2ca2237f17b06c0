-- A written pcap file is read.
use Rattle.std.proofs.Common.{◌≡◌, ℕ, ◌+◌, ◌*◌, ◌^◌, ◌<◌, ◌≤◌, List, [], ◌∷◌, ◌++◌, All, length, take, drop, map, Some, None, Ok, Err, Bool, true}
use Rattle.std.proofs.Common.{false, refl, sym, ap, ap₂, ◌∙◌, arith}
use Rattle.std.specs.Prelude.{nat_lt, nat_le, if◌then◌else◌}
use Rattle.std.specs.List.{flat_map}
use Rattle.std.proofs.lemmas.Bool.{le-ltb, le-leb}
use Rattle.std.proofs.lemmas.List.{length-append, take_at, drop-take}
use Rattle.std.proofs.lemmas.List.Elements.{All-nil, All-cons, All-head, All-tail, All-weaker}
use Rattle.tc_capture.specs.declared.error.CaptureError.TheVariants.{Short}
use Rattle.tc_capture.specs.declared.order.Order.{Order}
use Rattle.tc_capture.specs.declared.order.Order.TheVariants.{Little, Big}
use Rattle.tc_capture.specs.declared.packet.Link.TheVariants.{Cooked}
use Rattle.tc_capture.specs.declared.pcap.Pcap.{Pcap as PcapFile}
use Rattle.tc_capture.specs.declared.pcap.Variant.TheVariants.{Nanoseconds}
use Rattle.tc_capture.specs.declared.time.Time.{Time}
use Rattle.tc_capture.specs.Outcome.{Outcome, then_read}
use Rattle.tc_capture.specs.Order.{number}
use Rattle.tc_capture.specs.Time.{time_of}
use Rattle.tc_capture.specs.Front.{Front}
use Rattle.tc_capture.specs.Pcap.{header_with, magic_at, pcap_header, next_in_pcap}
use Rattle.tc_capture.specs.Capture.{before_header, in_pcap}
use Rattle.tc_capture_laws.specs.Pieces.{pieces_up_to, pieces_in}
use Rattle.tc_capture_laws.specs.Reading.{Read, read_in, reading}
use Rattle.tc_capture.specs.Written.{packet_header}
use Rattle.tc_capture_laws.specs.Files as files
use Rattle.tc_capture_laws.specs.Files.{Packet, IsPacket, AreAligned, packet_bytes, as_read, pcap_record, pcap_file, written_messages, written_packet}
use Rattle.tc_capture_laws.specs.Files.{written_file}
use Rattle.tc_capture_laws.proofs.Numbers.{number-number_bytes, time_of-nanoseconds}
use Rattle.tc_capture_laws.proofs.Steps.{step, ends, captured, IsReadOf, packet-read, written_bytes, written_packet-read}

-- what the header of a file says
abbrev pub pcap_of : Order → PcapFile
pcap_of order = record { order = order; variant = Nanoseconds; link = Cooked }

-- a packet that begins some bytes is read of them
read-record : (order : Order) (time : Time) (held bytes more : List ℕ) → drop 16 bytes ≡ held ++ more → number order 4 bytes ≡ time.seconds
    → number order 4 (drop 4 bytes) ≡ time.nanoseconds → number order 4 (drop 8 bytes) ≡ length held
    → number order 4 (drop 12 bytes) ≡ length held → 16 + length held ≤ length bytes → time.nanoseconds < 10 ^ 9
    → next_in_pcap (pcap_of order) bytes ≡ Ok (record { used = 16 + length held; packet = Ok (Some (captured time held 16)) })
unfolding next_in_pcap
read-record order time held bytes more after seconds nanoseconds here there within fits =
    let n = length held in
    let header : nat_lt (length bytes) 16 ≡ false = le-ltb (length bytes) 16 (omega arith) in
    let cut : nat_lt (length bytes) (16 + n) ≡ false = le-ltb (length bytes) (16 + n) within in
    let whole : nat_le n n ≡ true = le-leb n n (omega arith) in
    let front : drop 16 (take (16 + n) bytes) ≡ held = drop-take 16 n bytes ∙ ap (take n) after ∙ take_at held more n refl in
    let when : time_of (number order 4 bytes * 1000000000 + number order 4 (drop 4 bytes)) 1000000000 ≡ time =
    ap₂ (λ (s f : ℕ). time_of (s * 1000000000 + f) 1000000000) seconds nanoseconds ∙ time_of-nanoseconds time fits in
    ap₂ (λ (l : ℕ) (o : ℕ). given (nat_lt (length bytes) 16) (nat_lt (length bytes) (16 + l)) l
    (time_of (number order 4 bytes * 1000000000 + number order 4 (drop 4 bytes)) 1000000000) (nat_le o l) (drop 16 (take (16 + l) bytes))) here there
    ∙ ap₂ (λ (a b : Bool). given a b n (time_of (number order 4 bytes * 1000000000 + number order 4 (drop 4 bytes)) 1000000000) (nat_le n n)
    (drop 16 (take (16 + n) bytes))) header cut
    ∙ ap (λ (t : Time). given false false n t (nat_le n n) (drop 16 (take (16 + n) bytes))) when
    ∙ ap₂ (λ (w : Bool) (d : List ℕ). given false false n time w d) whole front
  where
    given : Bool → Bool → ℕ → Time → Bool → List ℕ → Outcome Front
    given a b l t w d =
        if a then Err (Short 16 (length bytes)) else if b then Err (Short (16 + l) (length bytes)) else
        Ok (record { used = 16 + l; packet = Ok (Some (record { time = Some t; link = Cooked; is_whole = w; at = 16; bytes = d })) })

length-record : (order : Order) (time : Time) (bytes : List ℕ) → length (pcap_record order time bytes) ≡ 16 + length bytes
length-record Little time bytes = omega arith
length-record Big time bytes = omega arith

next-record : (order : Order) (p : Packet) (bytes : List ℕ) (most : ℕ) (more : List ℕ) → IsReadOf most p bytes → most < 2 ^ 32
    → next_in_pcap (pcap_of order) (pcap_record order p.time bytes ++ more)
    ≡ Ok (record { used = 16 + length bytes; packet = Ok (Some (captured p.time bytes 16)) })
next-record Little p bytes most more is small =
    let within = is.within in
    read-record Little p.time bytes (pcap_record Little p.time bytes ++ more) more refl (number-number_bytes Little 4 p.time.seconds [] is.seconds)
    (number-number_bytes Little 4 p.time.nanoseconds [] (omega (arith, is.nanoseconds)))
    (number-number_bytes Little 4 (length bytes) [] (omega arith)) (number-number_bytes Little 4 (length bytes) [] (omega arith))
    (omega (arith, length-append bytes more)) is.nanoseconds
next-record Big p bytes most more is small =
    let within = is.within in
    read-record Big p.time bytes (pcap_record Big p.time bytes ++ more) more refl (number-number_bytes Big 4 p.time.seconds [] is.seconds)
    (number-number_bytes Big 4 p.time.nanoseconds [] (omega (arith, is.nanoseconds)))
    (number-number_bytes Big 4 (length bytes) [] (omega arith)) (number-number_bytes Big 4 (length bytes) [] (omega arith))
    (omega (arith, length-append bytes more)) is.nanoseconds

-- packets, each of which is read of its bytes
module _ (bytes_of : Packet → List ℕ) (order : Order) (longest most : ℕ) (room : longest + 16 ≤ most) (small : most < 2 ^ 32) where
  abbrev pub IsRead : Packet → Type 0
  IsRead p = IsReadOf longest p (bytes_of p)

  abbrev pub record_of : Packet → List ℕ
  record_of p = pcap_record order p.time (bytes_of p)

  records-read : (packets : List Packet) → All IsRead packets → (n : ℕ) → length (flat_map record_of packets) ≤ n
      → read_in (pieces_up_to n most (in_pcap (pcap_of order)) (flat_map record_of packets)) ≡ map as_read packets
  records-read [] all n few = ends n most (in_pcap (pcap_of order))
  records-read (p ∷ packets) all n few =
      let is = All-head IsRead p packets all in
      let within = is.within in
      let bytes = bytes_of p in
      let len = length-record order p.time bytes in
      step most n (in_pcap (pcap_of order)) (in_pcap (pcap_of order)) (record_of p) (flat_map record_of packets) (Ok (Some (captured p.time bytes 16)))
      (map as_read packets) (omega (arith, len)) (omega (arith, len)) few
      (λ x. ap (λ (o : Outcome Front). then_read o (λ (front : Front). Ok (front, in_pcap (pcap_of order))))
      (next-record order p bytes longest x is (omega arith))
      ∙ ap (λ (k : ℕ). Ok (record { used = k; packet = Ok (Some (captured p.time bytes 16)) }, in_pcap (pcap_of order))) (sym len))
      (λ m less. records-read packets (All-tail IsRead p packets all) m less)
      ∙ ap (λ (r : Read). r ∷ map as_read packets) (is.read 16)

  file-read : (packets : List Packet) → All IsRead packets → 24 ≤ most
      → (header : List ℕ) → length header ≡ 24 → ((more : List ℕ) → pcap_header (header ++ more) ≡ Ok (pcap_of order))
      → (n : ℕ) → length (header ++ flat_map record_of packets) ≤ n
      → read_in (pieces_up_to n most before_header (header ++ flat_map record_of packets)) ≡ map as_read packets
  file-read packets all least header len is n few =
      step most n before_header (in_pcap (pcap_of order)) header (flat_map record_of packets) (Ok None) (map as_read packets)
      (omega (arith, len)) (omega (arith, len)) few
      (λ x. ap (λ (o : Outcome PcapFile). then_read o (λ (file : PcapFile). Ok (record { used = 24; packet = Ok None }, in_pcap file))) (is x)
      ∙ ap (λ (k : ℕ). Ok (record { used = k; packet = Ok None }, in_pcap (pcap_of order))) (sym len))
      (λ m less. records-read packets all m less)

next-header : (order : Order) (longest : ℕ) (more : List ℕ) → pcap_header (files.pcap_header order longest ++ more) ≡ Ok (pcap_of order)
unfolding pcap_header
next-header Little longest more =
    let bytes = files.pcap_header Little longest ++ more in
    ap (λ (b : Bool). if b then Err (Short 24 (length bytes)) else header_with (magic_at bytes) bytes) (le-ltb (length bytes) 24 (omega arith))
next-header Big longest more =
    let bytes = files.pcap_header Big longest ++ more in
    ap (λ (b : Bool). if b then Err (Short 24 (length bytes)) else header_with (magic_at bytes) bytes) (le-ltb (length bytes) 24 (omega arith))

-- whatever the header says of the longest packet
file_of-read : (bytes_of : Packet → List ℕ) (order : Order) (said longest most : ℕ) (room : longest + 16 ≤ most) (small : most < 2 ^ 32) (packets : List Packet)
    → 24 ≤ most → All (IsRead bytes_of order longest most room small) packets
    → reading most (files.pcap_header order said ++ flat_map (record_of bytes_of order longest most room small) packets) ≡ Some (map as_read packets)
unfolding pieces_in
file_of-read bytes_of Little said longest most room small packets least all =
    ap (λ (r : List Read). Some r)
    (file-read bytes_of Little longest most room small packets all least (files.pcap_header Little said) refl (next-header Little said) _ (omega arith))
file_of-read bytes_of Big said longest most room small packets least all =
    ap (λ (r : List Read). Some r)
    (file-read bytes_of Big longest most room small packets all least (files.pcap_header Big said) refl (next-header Big said) _ (omega arith))

pub pcap-read : (order : Order) (longest most : ℕ) (packets : List Packet) → longest + 16 ≤ most → most < 2 ^ 32 → 24 ≤ most
    → All (IsPacket longest) packets → reading most (pcap_file order longest packets) ≡ Some (map as_read packets)
pcap-read order longest most packets room small least all =
    file_of-read packet_bytes order longest longest most room small packets least
    (All-weaker (IsPacket longest) (λ (p : Packet). IsReadOf longest p (packet_bytes p)) (λ p is. packet-read longest p (omega arith) is) packets all)

-- ---- as it is written, with nothing between messages

packet-written : (p : Packet) → written_packet p ≡ pcap_record Little p.time (written_bytes p)
packet-written p =
    let body = written_messages p.messages in
    let len : length body + 16 ≡ length (written_bytes p) = omega arith in
    ap (λ (n : ℕ). packet_header p.time.seconds p.time.nanoseconds n p.packet_type ++ body) len

packets-written : (packets : List Packet) → flat_map written_packet packets ≡ flat_map (λ (p : Packet). pcap_record Little p.time (written_bytes p)) packets
packets-written [] = refl
packets-written (p ∷ packets) = ap₂ (λ (xs ys : List ℕ). xs ++ ys) (packet-written p) (packets-written packets)

-- each packet is read
are-read : (longest : ℕ) (packets : List Packet) → longest < 2 ^ 32 → All (IsPacket longest) packets → All (λ (p : Packet). AreAligned p.messages) packets
    → All (λ (p : Packet). IsReadOf longest p (written_bytes p)) packets
are-read longest [] small all aligned = All-nil (λ (p : Packet). IsReadOf longest p (written_bytes p))
are-read longest (p ∷ packets) small all aligned =
    All-cons (λ (p : Packet). IsReadOf longest p (written_bytes p)) p packets
    (written_packet-read longest p small (All-head (IsPacket longest) p packets all) (All-head (λ (p : Packet). AreAligned p.messages) p packets aligned))
    (are-read longest packets small (All-tail (IsPacket longest) p packets all) (All-tail (λ (p : Packet). AreAligned p.messages) p packets aligned))

pub written-read : (longest most : ℕ) (packets : List Packet) → longest + 16 ≤ most → most < 2 ^ 32 → 24 ≤ most → All (IsPacket longest) packets
    → All (λ (p : Packet). AreAligned p.messages) packets → reading most (written_file packets) ≡ Some (map as_read packets)
written-read longest most packets room small least all aligned =
    ap (λ (rest : List ℕ). reading most (files.pcap_header Little 0x100000 ++ rest)) (packets-written packets)
    ∙ file_of-read written_bytes Little 0x100000 longest most room small packets least (are-read longest packets (omega arith) all aligned)

-- The same messages in each format.
use Rattle.std.proofs.Common.{◌≡◌, ◌≢◌, ℕ, ◌+◌, ◌^◌, ◌<◌, ◌≤◌, List, [], ◌∷◌, ◌++◌, All, length, map, None, Some, Ok, refl, sym, ap, ◌∙◌, arith}
use Rattle.std.specs.Prelude.{option_map}
use Rattle.std.specs.List.{flat_map}
use Rattle.std.proofs.lemmas.List.{length-append, map-append}
use Rattle.std.proofs.lemmas.List.Elements.{All-nil, All-cons, All-append, All-head, All-tail}
use Rattle.tc_capture.specs.declared.order.Order.{Order}
use Rattle.tc_capture.specs.Outcome.{Outcome}
use Rattle.tc_capture.specs.Message.{Message}
use Rattle.tc_capture_laws.specs.Reading.{Read, messages_of, reading, messages_read}
use Rattle.tc_capture_laws.specs.Files.{HasAtMost}
use Rattle.tc_capture_laws.specs.Files.{Packet, IsMessage, IsPacket, IsNoTime, message_bytes, messages_bytes, as_read, single_as_read, all_messages}
use Rattle.tc_capture_laws.specs.Files.{stream_file, pcap_file, pcapng_file}
use Rattle.tc_capture_laws.proofs.PcapReads.{pcap-read}
use Rattle.tc_capture_laws.proofs.PcapNgReads.{pcapng-read}
use Rattle.tc_capture_laws.proofs.StreamReads.{stream-read}

abbrev pub ok : Message → Outcome Message
ok m = Ok m

packets-hold : (packets : List Packet) → flat_map messages_of (map as_read packets) ≡ map ok (all_messages packets)
packets-hold [] = refl
packets-hold (p ∷ packets) = ap (λ (rest : List (Outcome Message)). map ok p.messages ++ rest) (packets-hold packets)
    ∙ sym (map-append ok p.messages (all_messages packets))

messages-hold : (messages : List Message) → flat_map messages_of (map (single_as_read None) messages) ≡ map ok messages
messages-hold [] = refl
messages-hold (m ∷ messages) = ap (λ (rest : List (Outcome Message)). Ok m ∷ rest) (messages-hold messages)

-- what is read of a file has these messages
hold : (most : ℕ) (file : List ℕ) (found : List Read) (messages : List Message) → reading most file ≡ Some found → flat_map messages_of found ≡ map ok messages
    → messages_read most file ≡ Some (map ok messages)
hold most file found messages read same =
    ap (option_map (λ (r : List Read). flat_map messages_of r)) read ∙ ap (λ (ms : List (Outcome Message)). Some ms) same

-- what is so of the messages of each packet
each-packet : (P : Message → Type 0) (packets : List Packet) → All (λ (p : Packet). All P p.messages) packets → All P (all_messages packets)
each-packet P [] all = All-nil P
each-packet P (p ∷ packets) all =
    All-append P p.messages (all_messages packets) (All-head (λ (p : Packet). All P p.messages) p packets all)
    (each-packet P packets (All-tail (λ (p : Packet). All P p.messages) p packets all))

short-messages : (most : ℕ) (messages : List Message) → length (messages_bytes messages) ≤ most → All (HasAtMost most) messages
short-messages most [] few = All-nil (HasAtMost most)
short-messages most (m ∷ messages) few =
    let sum = length-append (message_bytes m) (messages_bytes messages) in
    All-cons (HasAtMost most) m messages (omega (arith, sum)) (short-messages most messages (omega (arith, sum)))

are-messages : (longest most : ℕ) (packets : List Packet) → longest ≤ most → All (IsPacket longest) packets
    → All (λ (p : Packet). All IsMessage p.messages) packets × All (λ (p : Packet). All (HasAtMost most) p.messages) packets
are-messages longest most [] room all = (All-nil (λ (p : Packet). All IsMessage p.messages), All-nil (λ (p : Packet). All (HasAtMost most) p.messages))
are-messages longest most (p ∷ packets) room all =
    let is = All-head (IsPacket longest) p packets all in
    let within = is.length in
    let rest = are-messages longest most packets room (All-tail (IsPacket longest) p packets all) in (
      All-cons (λ (p : Packet). All IsMessage p.messages) p packets is.messages rest.0,
      All-cons (λ (p : Packet). All (HasAtMost most) p.messages) p packets (short-messages most p.messages (omega arith)) rest.1,
    )

module _ (order : Order) (longest most : ℕ) (packets : List Packet) (room : longest + 35 ≤ most) (small : most < 2 ^ 24) (all : All (IsPacket longest) packets)
    (some : all_messages packets ≢ []) (others : All IsNoTime (all_messages packets)) where
  pub stream-holds : messages_read most (stream_file (all_messages packets)) ≡ Some (map ok (all_messages packets))
  stream-holds =
      let are = are-messages longest most packets (omega arith) all in
      hold most (stream_file (all_messages packets)) (map (single_as_read None) (all_messages packets)) (all_messages packets)
      (stream-read most (all_messages packets) small some (each-packet IsMessage packets are.0) others (each-packet (HasAtMost most) packets are.1))
      (messages-hold (all_messages packets))

  pub pcap-holds : messages_read most (pcap_file order longest packets) ≡ Some (map ok (all_messages packets))
  pcap-holds =
      hold most (pcap_file order longest packets) (map as_read packets) (all_messages packets)
      (pcap-read order longest most packets (omega arith) (omega arith) (omega arith) all) (packets-hold packets)

  pub pcapng-holds : messages_read most (pcapng_file order packets) ≡ Some (map ok (all_messages packets))
  pcapng-holds =
      hold most (pcapng_file order packets) (map as_read packets) (all_messages packets)
      (pcapng-read order longest most packets room (omega arith) (omega arith) all) (packets-hold packets)

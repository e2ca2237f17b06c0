-- A file that is written piece by piece is read piece by piece.
use Rattle.std.proofs.Common.{◌≡◌, ℕ, zero, suc, ◌+◌, ◌-◌, ◌^◌, ◌<◌, ◌≤◌, List, [], ◌∷◌, ◌++◌, length, take, drop, map, Option, Some, Ok, refl, ap, ◌∙◌, arith}
use Rattle.std.proofs.Math.Seq.{take-append-add}
use Rattle.std.proofs.lemmas.List.{length-append, drop_at}
use Rattle.std.proofs.lemmas.Bool.{le-ltb}
use Rattle.byteorder.specs.Endian.{big_number}
use Rattle.byteorder.specs.Numbers.{big_number-reads_back}
use Rattle.std.specs.Prelude.{nat_lt, Bool, true, false, Err, if◌then◌else◌}
use Rattle.tc_capture.specs.declared.error.CaptureError.TheVariants.{Short}
use Rattle.tc_capture.specs.declared.packet.Link.TheVariants.{Cooked}
use Rattle.tc_capture.specs.Outcome.{Outcome}
use Rattle.tc_capture.specs.Message.{Message}
use Rattle.tc_capture.specs.Messages.{messages_in}
use Rattle.tc_capture.specs.Packet.{Captured, route, contents_in}
use Rattle.tc_capture.specs.Front.{Front}
use Rattle.tc_capture.specs.Capture.{State, next_piece}
use Rattle.tc_capture_laws.specs.Pieces as pieces
use Rattle.tc_capture_laws.specs.Pieces.{What, piece_and_more, pieces_up_to}
use Rattle.tc_capture_laws.specs.Reading as reading
use Rattle.tc_capture_laws.specs.Reading.{Read, packet_of, read_of, read_in}
use Rattle.tc_capture.specs.Written.{cooked}
use Rattle.tc_capture_laws.specs.Files.{Packet, IsPacket, AreAligned, messages_bytes, packet_bytes, written_messages, as_read}
use Rattle.tc_capture.specs.declared.time.Time.{Time}
use Rattle.tc_capture_laws.proofs.MessageReads.{messages_in-messages_bytes, messages_in-written_messages, length-written_messages}

-- a piece that a reader keeps all of, before others
pub step : (most n : ℕ) (s t : State) (piece more : List ℕ) (packet : Outcome (Option Captured)) (found : List Read)
    → 0 < length piece → length piece ≤ most → length (piece ++ more) ≤ n
    → ((x : List ℕ) → next_piece s (piece ++ x) ≡ Ok (record { used = length piece; packet = packet }, t))
    → ((m : ℕ) → length more ≤ m → read_in (pieces_up_to m most t more) ≡ found)
    → read_in (pieces_up_to n most s (piece ++ more)) ≡ read_of (pieces.read packet) ++ found
unfolding pieces_up_to
step most n s t [] more packet found some fits few is later = absurd (omega arith)
step most zero s t (b ∷ piece) more packet found some fits few is later = absurd (omega arith)
step most (suc n) s t (b ∷ piece) more packet found some fits few is later =
    let all = b ∷ piece in
    let k = most - length all in
    let room : most ≡ length all + k = omega arith in
    let window : take most (all ++ more) ≡ all ++ take k more = ap (λ (j : ℕ). take j (all ++ more)) room ∙ take-append-add all more k in
    let here : next_piece s (take most (all ++ more)) ≡ Ok (record { used = length all; packet = packet }, t) = ap (next_piece s) window ∙ is (take k more) in
    let rest : drop (length all) (all ++ more) ≡ more = drop_at all more (length all) refl in
    ap (λ (o : Outcome (Front × State)). read_in (piece_and_more most (pieces_up_to n most) s (all ++ more) o)) here
    ∙ ap (λ (r : List ℕ). read_of (pieces.read packet) ++ read_in (pieces_up_to n most t r)) rest
    ∙ ap (λ (f : List Read). read_of (pieces.read packet) ++ f) (later n (omega (arith, length-append piece more)))

-- the end of a file
pub ends : (n most : ℕ) (s : State) → read_in (pieces_up_to n most s []) ≡ []
unfolding pieces_up_to
ends zero most s = refl
ends (suc n) most s = refl

-- a packet as it is in a file
abbrev pub captured : Time → List ℕ → ℕ → Captured
captured time bytes at = record { time = Some time; link = Cooked; is_whole = true; at = at; bytes = bytes }

-- a packet is read of these bytes, its numbers fit their fields, and there are so many bytes at most
pub record IsReadOf (most : ℕ) (p : Packet) (bytes : List ℕ) : Type 0 where
  pub seconds : p.time.seconds < 2 ^ 32
  pub nanoseconds : p.time.nanoseconds < 10 ^ 9
  pub within : length bytes ≤ most
  pub read : (at : ℕ) → packet_of (captured p.time bytes at) (contents_in Cooked bytes) ≡ as_read p

-- behind a cooked header
cooked-read : (p : Packet) (body : List ℕ) → p.packet_type < 2 ^ 16 → messages_in body ≡ map (λ (m : Message). Ok m) p.messages → (at : ℕ)
    → packet_of (captured p.time (cooked p.packet_type ++ body) at) (contents_in Cooked (cooked p.packet_type ++ body)) ≡ as_read p
cooked-read p body fits read at =
    let bytes = cooked p.packet_type ++ body in
    let header : nat_lt (length bytes) 16 ≡ false = le-ltb (length bytes) 16 (omega arith) in
    let type : big_number 2 bytes ≡ p.packet_type = big_number-reads_back 2 p.packet_type [] fits in
    ap (λ (b : Bool). packet_of (captured p.time bytes at) (if b then Err (Short 16 (length bytes)) else Ok (route (Some (big_number 2 bytes)) body))) header
    ∙ ap (λ (n : ℕ). reading.packet (record { time = Some p.time; packet_type = Some n; messages = messages_in body })) type
    ∙ ap (λ (ms : List (Outcome Message)). reading.packet (record { time = Some p.time; packet_type = Some p.packet_type; messages = ms })) read

pub packet-read : (most : ℕ) (p : Packet) → most < 2 ^ 32 → IsPacket most p → IsReadOf most p (packet_bytes p)
packet-read most p small is =
    let within = is.length in
    record {
      seconds = is.seconds;
      nanoseconds = is.nanoseconds;
      within = within;
      read = cooked-read p (messages_bytes p.messages) is.packet_type (messages_in-messages_bytes p.messages is.messages (omega arith));
    }

-- the bytes of a packet, with nothing between its messages
abbrev pub written_bytes : Packet → List ℕ
written_bytes p = cooked p.packet_type ++ written_messages p.messages

pub written_packet-read : (most : ℕ) (p : Packet) → most < 2 ^ 32 → IsPacket most p → AreAligned p.messages → IsReadOf most p (written_bytes p)
written_packet-read most p small is aligned =
    let within = is.length in
    let less = length-written_messages p.messages in
    record {
      seconds = is.seconds;
      nanoseconds = is.nanoseconds;
      within = omega arith;
      read = cooked-read p (written_messages p.messages) is.packet_type (messages_in-written_messages p.messages is.messages aligned (omega arith));
    }

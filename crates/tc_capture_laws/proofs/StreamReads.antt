-- A written stream is read.
use Rattle.std.proofs.Common.{◌≡◌, ◌≢◌, ℕ, ◌+◌, ◌*◌, ◌/◌, ◌%◌, ◌^◌, ◌<◌, ◌≤◌, List, [], ◌∷◌, ◌++◌, All, length, take, drop, map, Option, Some, None, Ok, Err}
use Rattle.std.proofs.Common.{Bool}
use Rattle.std.proofs.Common.{true, false, refl, sym, ap, ap₂, ◌∙◌, arith}
use Rattle.std.specs.Prelude.{nat_lt, nat_le, is_some, option_map, ◌==◌, ◌&&◌, if◌then◌else◌}
use Rattle.std.proofs.lemmas.Bool.{lt-ltb, le-ltb, ne_eqb}
use Rattle.std.proofs.lemmas.List.{append_assoc, append-nil, length-append, take_at}
use Rattle.std.proofs.lemmas.List.Elements.{All-nil, All-cons, All-head, All-tail}
use Rattle.byteorder.specs.Endian.{little_number, big_number, little_bytes}
use Rattle.byteorder.specs.Numbers.{little_number-reads_back}
use Rattle.tc_capture.specs.declared.error.CaptureError.TheVariants.{Short, MessageTooShort}
use Rattle.tc_capture.specs.declared.order.Order.{Order}
use Rattle.tc_capture.specs.declared.order.Order.TheVariants.{Little, Big}
use Rattle.tc_capture.specs.declared.packet.Link.TheVariants.{Plain}
use Rattle.tc_capture.specs.declared.pcap.Variant.{Variant}
use Rattle.tc_capture.specs.declared.time.Time.{Time}
use Rattle.tc_capture.specs.Outcome.{Outcome, then_read}
use Rattle.tc_capture.specs.Time.{time_of}
use Rattle.tc_capture.specs.Message.{Message, padding, length_at}
use Rattle.tc_capture.specs.Messages.{messages_in}
use Rattle.tc_capture.specs.Packet.{Captured}
use Rattle.tc_capture.specs.Front.{Front}
use Rattle.tc_capture.specs.Pcap.{variant_of, in_order, magic_at}
use Rattle.tc_capture.specs.Stream.{is_time, time_at_front, front_of_length, next_in_stream}
use Rattle.tc_capture.specs.Capture.{State, in_stream, before_header, in_section, capture_at}
use Rattle.tc_capture_laws.specs.Pieces.{pieces_up_to, pieces_in}
use Rattle.tc_capture_laws.specs.Reading as reading
use Rattle.tc_capture_laws.specs.Reading.{Read, read_in}
use Rattle.tc_capture_laws.specs.Files.{Packet, IsMessage, IsNoTime, HasAtMost, IsTimed, message_bytes, messages_bytes, single_as_read, stamp}
use Rattle.tc_capture_laws.specs.Files.{stream_file, timed_file, timed_as_read}
use Rattle.tc_capture_laws.proofs.MessageReads.{length-message_bytes, length_at-message_bytes, messages_in-messages_bytes}
use Rattle.tc_capture_laws.proofs.Steps.{step, ends}

-- ---- what a stream begins with

no-variant : (x : ℕ) → x ≢ 0xa1b2c3d4 → x ≢ 0xa1b23c4d → x ≢ 0xa1b2cd34 → variant_of x ≡ None
no-variant x a b c = rw (ne_eqb x 0xa1b2c3d4 a, ne_eqb x 0xa1b23c4d b, ne_eqb x 0xa1b2cd34 c) refl

-- a number below 2^24 is no magic number, in neither order
no-magic : (x : ℕ) → x < 2 ^ 24 → magic_at (little_bytes 4 x) ≡ None
no-magic x small =
    let first = little_bytes 4 x in
    let little : little_number 4 first ≡ x = little_number-reads_back 4 x [] (omega arith) in
    let top : x / 256 ^ 3 % 256 ≡ 0 = omega arith in
    let low : big_number 4 first % 256 ≡ 0 = omega arith in
    let by_little : variant_of (little_number 4 first) ≡ None = no-variant (little_number 4 first) (λ e. omega arith) (λ e. omega arith) (λ e. omega arith) in
    let by_big : variant_of (big_number 4 first) ≡ None = no-variant (big_number 4 first) (λ e. omega arith) (λ e. omega arith) (λ e. omega arith) in
    ap₂ either by_little by_big
  where
    either : Option Variant → Option Variant → Option (Order × Variant)
    either a b = in_order Little a (in_order Big b None)

stream-capture : (x : ℕ) → x < 2 ^ 24 → capture_at (little_bytes 4 x) ≡ Some (in_stream None)
stream-capture x small =
    let first = little_bytes 4 x in
    let little : little_number 4 first ≡ x = little_number-reads_back 4 x [] (omega arith) in
    ap₂ (λ (m : Option (Order × Variant)) (y : ℕ). given (is_some m) (y == 0x0a0d0d0a) (nat_lt y (2 ^ 24))) (no-magic x small) little
    ∙ ap₂ (λ (b c : Bool). given false b c) (ne_eqb x 0x0a0d0d0a (λ e. omega arith)) (lt-ltb x (2 ^ 24) small)
  where
    given : Bool → Bool → Bool → Option State
    given a b c =
        if a then Some before_header else if b then Some (in_section (record { order = Little; interfaces = [] })) else if c then Some
        (in_stream None) else None

-- ---- its messages

abbrev pub alone : Option Time → Message → Captured
alone time m = record { time = time; link = Plain; is_whole = true; at = 0; bytes = message_bytes m }

next-alone : (time : Option Time) (m : Message) (more : List ℕ) → IsMessage m → m.kind ≢ 15 → 16 + length m.payload < 2 ^ 32
    → next_in_stream time (message_bytes m ++ more) ≡ Ok (record { used = length (message_bytes m); packet = Ok (Some (alone time m)) }, time)
unfolding next_in_stream
next-alone time m more is other small =
    let bytes = message_bytes m ++ more in
    let n = 16 + length m.payload in
    let all = n + padding n in
    let len = length-message_bytes m in
    let sum = length-append (message_bytes m) more in
    let long : length_at bytes ≡ n = length_at-message_bytes m more small in
    let kind : little_number 2 (drop 4 bytes) ≡ m.kind = little_number-reads_back 2 m.kind [] is.kind in
    let no_time : is_time bytes ≡ false =
    ap (λ (k : ℕ). k == 15 && nat_le 24 (length_at bytes)) kind ∙ ap (λ (b : Bool). b && nat_le 24 (length_at bytes)) (ne_eqb m.kind 15 other) in
    let no_header : nat_lt (length bytes) 16 ≡ false = le-ltb (length bytes) 16 (omega (arith, len, sum)) in
    let too_short : nat_lt n 16 ≡ false = le-ltb n 16 (omega arith) in
    let cut : nat_lt (length bytes) all ≡ false = le-ltb (length bytes) all (omega (arith, len, sum)) in
    let front : take all bytes ≡ message_bytes m = take_at (message_bytes m) more all len in
    ap (λ (l : ℕ). given (nat_lt (length bytes) 16) (nat_lt l 16) (nat_lt (length bytes) (l + padding l)) l (front_of_length (l + padding l) time bytes)) long
    ∙ ap₂ (λ (a b : Bool). given a b (nat_lt (length bytes) all) n (front_of_length all time bytes)) no_header too_short
    ∙ ap (λ (c : Bool). given false false c n (front_of_length all time bytes)) cut
    ∙ ap (λ (t : Bool). Ok (if t then (record { used = all; packet = Ok None }, Some (time_at_front bytes)) else made all (take all bytes))) no_time
    ∙ ap₂ (λ (k : ℕ) (b : List ℕ). Ok (made k b)) (sym len) front
  where
    made : ℕ → List ℕ → Front × Option Time
    made k b = (record { used = k; packet = Ok (Some (record { time = time; link = Plain; is_whole = true; at = 0; bytes = b })) }, time)

    given : Bool → Bool → Bool → ℕ → Front × Option Time → Outcome (Front × Option Time)
    given a b c l x =
        let bytes = message_bytes m ++ more in
        if a then Err (Short 16 (length bytes)) else if b then Err (MessageTooShort l) else if c then Err (Short (l + padding l) (length bytes)) else Ok x

-- the one message of a piece
alone-read : (m : Message) → IsMessage m → length (message_bytes m) < 2 ^ 32 → messages_in (message_bytes m) ≡ Ok m ∷ []
alone-read m is small =
    let whole = append-nil (message_bytes m) in
    ap messages_in (sym whole) ∙ messages_in-messages_bytes (m ∷ []) (All-cons IsMessage m [] is (All-nil IsMessage)) (omega (arith, ap length whole))

-- messages before what follows them
messages-read : (most : ℕ) (time : Option Time) (messages : List Message) (more : List ℕ) (found : List Read) → most < 2 ^ 32
    → All IsMessage messages → All IsNoTime messages → All (HasAtMost most) messages
    → ((k : ℕ) → length more ≤ k → read_in (pieces_up_to k most (in_stream time) more) ≡ found)
    → (n : ℕ) → length (messages_bytes messages ++ more) ≤ n
    → read_in (pieces_up_to n most (in_stream time) (messages_bytes messages ++ more)) ≡ map (single_as_read time) messages ++ found
messages-read most time [] more found small are others short later n few = later n few
messages-read most time (m ∷ messages) more found small are others short later n few =
    let is = All-head IsMessage m messages are in
    let fits = All-head (HasAtMost most) m messages short in
    let len = length-message_bytes m in
    let rest = messages_bytes messages ++ more in
    let after = map (single_as_read time) messages ++ found in
    let apart : messages_bytes (m ∷ messages) ++ more ≡ message_bytes m ++ rest = append_assoc (message_bytes m) (messages_bytes messages) more in
    ap (λ (b : List ℕ). read_in (pieces_up_to n most (in_stream time) b)) apart
    ∙ step most n (in_stream time) (in_stream time) (message_bytes m) rest (Ok (Some (alone time m))) after
    (omega (arith, len)) fits (omega (arith, ap length apart))
    (λ x. ap (λ (o : Outcome (Front × Option Time)). then_read o (λ (y : Front × Option Time). Ok (y.0, in_stream y.1)))
    (next-alone time m x is (All-head IsNoTime m messages others) (omega (arith, len))))
    (λ k less. messages-read most time messages more found small (All-tail IsMessage m messages are) (All-tail IsNoTime m messages others)
    (All-tail (HasAtMost most) m messages short) later k less)
    ∙ ap (λ (ms : List (Outcome Message)). reading.packet (record { time = time; packet_type = None; messages = ms }) ∷ after)
    (alone-read m is (omega arith))

-- a stream that begins with this number is read as one
begun : (most x : ℕ) (file : List ℕ) (found : List Read) → x < 2 ^ 24 → take 4 file ≡ little_bytes 4 x
    → read_in (pieces_up_to (length file) most (in_stream None) file) ≡ found → reading.reading most file ≡ Some found
unfolding pieces_in
begun most x file found small first read =
    ap (λ (c : Option State). option_map read_in (option_map (λ (s : State). pieces_in most s file) c)) (ap capture_at first ∙ stream-capture x small)
    ∙ ap (λ (r : List Read). Some r) read

pub stream-read : (most : ℕ) (messages : List Message) → most < 2 ^ 24 → messages ≢ [] → All IsMessage messages → All IsNoTime messages
    → All (HasAtMost most) messages → reading.reading most (stream_file messages) ≡ Some (map (single_as_read None) messages)
stream-read most [] small some are others short = absurd (some refl)
stream-read most (m ∷ messages) small some are others short =
    let fits = All-head (HasAtMost most) m messages short in
    let len = length-message_bytes m in
    let file = messages_bytes (m ∷ messages) in
    let whole = append-nil file in
    begun most (length m.payload + 16) file (map (single_as_read None) (m ∷ messages)) (omega (arith, len)) refl
    (ap (λ (b : List ℕ). read_in (pieces_up_to (length file) most (in_stream None) b)) (sym whole)
    ∙ messages-read most None (m ∷ messages) [] [] (omega arith) are others short (λ k less. ends k most (in_stream None)) (length file)
    (omega (arith, ap length whole))
    ∙ append-nil (map (single_as_read None) (m ∷ messages)))

-- ---- with times

-- seconds and microseconds
time_of-microseconds : (time : Time) → time.nanoseconds < 10 ^ 9 → time.nanoseconds % 1000 ≡ 0
    → time_of (time.seconds * 1000000 + time.nanoseconds / 1000) 1000000 ≡ time
time_of-microseconds time fits even =
    let part = time.nanoseconds / 1000 in
    let ticks = time.seconds * 1000000 + part in
    let seconds : ticks / 1000000 ≡ time.seconds = omega arith in
    let rest : ticks % 1000000 ≡ part = omega arith in
    let back : part * 1000000000 / 1000000 ≡ time.nanoseconds = omega arith in
    ap (λ (s : ℕ). record { seconds = s; nanoseconds = ticks % 1000000 * 1000000000 / 1000000 }) seconds
    ∙ ap (λ (p : ℕ). record { seconds = time.seconds; nanoseconds = p * 1000000000 / 1000000 }) rest
    ∙ ap (λ (p : ℕ). record { seconds = time.seconds; nanoseconds = p }) back

next-stamp : (before : Option Time) (time : Time) (more : List ℕ) → time.seconds < 2 ^ 32 → time.nanoseconds < 10 ^ 9 → time.nanoseconds % 1000 ≡ 0
    → next_in_stream before (message_bytes (stamp time) ++ more) ≡ Ok (record { used = 24; packet = Ok None }, Some time)
unfolding next_in_stream
next-stamp before time more seconds nanoseconds even =
    let bytes = message_bytes (stamp time) ++ more in
    let part = time.nanoseconds / 1000 in
    let header : nat_lt (length bytes) 16 ≡ false = le-ltb (length bytes) 16 (omega arith) in
    let cut : nat_lt (length bytes) 24 ≡ false = le-ltb (length bytes) 24 (omega arith) in
    let secs : little_number 4 (drop 16 bytes) ≡ time.seconds = little_number-reads_back 4 time.seconds [] seconds in
    let rest : little_number 4 (drop 20 bytes) ≡ part = little_number-reads_back 4 part [] (omega arith) in
    let read : time_at_front bytes ≡ time =
    ap₂ (λ (s p : ℕ). time_of (s * 1000000 + p) 1000000) secs rest ∙ time_of-microseconds time nanoseconds even in
    ap₂ (λ (a b : Bool). if a then Err (Short 16 (length bytes)) else if b then Err (Short 24 (length bytes)) else
    Ok (record { used = 24; packet = Ok None }, Some (time_at_front bytes))) header cut
    ∙ ap (λ (t : Time). Ok (record { used = 24; packet = Ok None }, Some t)) read

-- packets, each after its time
timed-read : (most : ℕ) (before : Option Time) (packets : List Packet) → most < 2 ^ 32 → 24 ≤ most → All (IsTimed most) packets
    → (n : ℕ) → length (timed_file packets) ≤ n → read_in (pieces_up_to n most (in_stream before) (timed_file packets)) ≡ timed_as_read packets
timed-read most before [] small least all n few = ends n most (in_stream before)
timed-read most before (p ∷ packets) small least all n few =
    let is = All-head (IsTimed most) p packets all in
    let begin = message_bytes (stamp p.time) in
    let rest = messages_bytes p.messages ++ timed_file packets in
    let apart : timed_file (p ∷ packets) ≡ begin ++ rest = append_assoc begin (messages_bytes p.messages) (timed_file packets) in
    ap (λ (b : List ℕ). read_in (pieces_up_to n most (in_stream before) b)) apart
    ∙ step most n (in_stream before) (in_stream (Some p.time)) begin rest (Ok None) (timed_as_read (p ∷ packets))
    (omega arith) (omega arith) (omega (arith, ap length apart))
    (λ x. ap (λ (o : Outcome (Front × Option Time)). then_read o (λ (y : Front × Option Time). Ok (y.0, in_stream y.1)))
    (next-stamp before p.time x is.seconds is.nanoseconds is.microseconds))
    (λ k less. messages-read most (Some p.time) p.messages (timed_file packets) (timed_as_read packets) small is.messages is.others is.lengths
    (λ j fewer. timed-read most (Some p.time) packets small least (All-tail (IsTimed most) p packets all) j fewer) k less)

pub timed_file-read : (most : ℕ) (packets : List Packet) → most < 2 ^ 32 → 24 ≤ most → packets ≢ [] → All (IsTimed most) packets
    → reading.reading most (timed_file packets) ≡ Some (timed_as_read packets)
timed_file-read most [] small least some all = absurd (some refl)
timed_file-read most (p ∷ packets) small least some all =
    let file = timed_file (p ∷ packets) in
    begun most 24 file (timed_as_read (p ∷ packets)) (omega arith) refl (timed-read most None (p ∷ packets) small least all (length file) (omega arith))

-- Written messages are read.
use Rattle.std.proofs.Common.{◌≡◌, ℕ, zero, suc, ◌+◌, ◌-◌, ◌%◌, ◌^◌, ◌<◌, ◌≤◌, List, [], ◌∷◌, ◌++◌, All, length, take, drop, map, Ok, Err, Bool, false, refl}
use Rattle.std.proofs.Common.{sym, ap}
use Rattle.std.proofs.Common.{ap₂, ◌∙◌, arith}
use Rattle.std.specs.Prelude.{nat_lt, if◌then◌else◌}
use Rattle.std.proofs.lemmas.Bool.{le-ltb}
use Rattle.std.proofs.lemmas.List.{append_assoc, append-nil, drop_all, length-append, length-replicate, take_at, drop_at, drop-take, drop-drop}
use Rattle.std.proofs.lemmas.List.Elements.{All-head, All-tail}
use Rattle.byteorder.specs.Endian.{little_number}
use Rattle.byteorder.specs.Numbers.{little_number-reads_back}
use Rattle.tc_capture.specs.declared.error.CaptureError.TheVariants.{Short, MessageTooShort}
use Rattle.tc_capture.specs.Outcome.{Outcome}
use Rattle.tc_capture.specs.Message.{Message, padding, length_at, message_of_length, next_message}
use Rattle.tc_capture.specs.Messages.{are_zeros, message_and_rest, messages_up_to, messages_in}
use Rattle.tc_capture.specs.Written.{in_netlink}
use Rattle.tc_capture_laws.specs.Files.{IsMessage, HasNoPadding, AreAligned, zeros, message_bytes, messages_bytes, written_messages}
use Rattle.tc_capture_laws.proofs.Numbers.{are_zeros-number}

-- a message that begins some bytes is read of them
read-message : (m : Message) (bytes following more : List ℕ) → drop 16 bytes ≡ m.payload ++ following → drop (padding (16 + length m.payload)) following ≡ more
    → length_at bytes ≡ 16 + length m.payload → little_number 2 (drop 4 bytes) ≡ m.kind → little_number 2 (drop 6 bytes) ≡ m.flags
    → little_number 4 (drop 8 bytes) ≡ m.sequence → little_number 4 (drop 12 bytes) ≡ m.port → 16 + length m.payload ≤ length bytes
    → next_message bytes ≡ Ok (m, more)
unfolding next_message
read-message m bytes following more after padded long kind flags sequence port within =
    let n = length m.payload in
    let k = padding (16 + n) in
    let no_header : nat_lt (length bytes) 16 ≡ false = le-ltb (length bytes) 16 (omega arith) in
    let too_short : nat_lt (16 + n) 16 ≡ false = le-ltb (16 + n) 16 (omega arith) in
    let cut : nat_lt (length bytes) (16 + n) ≡ false = le-ltb (length bytes) (16 + n) within in
    let payload : drop 16 (take (16 + n) bytes) ≡ m.payload = drop-take 16 n bytes ∙ ap (take n) after ∙ take_at m.payload following n refl in
    let rest : drop k (drop (16 + n) bytes) ≡ more =
    ap (drop k) (sym (drop-drop n 16 bytes) ∙ ap (drop n) after ∙ drop_at m.payload following n refl) ∙ padded in
    let made : Message = message_of_length (16 + n) bytes in
    let same : made ≡ m = fields kind flags sequence port payload in
    ap (λ (l : ℕ). given (nat_lt (length bytes) 16) (nat_lt l 16) (nat_lt (length bytes) l) l (message_of_length l bytes)
    (drop (padding l) (drop l bytes))) long
    ∙ ap (λ (b : Bool). given b (nat_lt (16 + n) 16) (nat_lt (length bytes) (16 + n)) (16 + n) made (drop k (drop (16 + n) bytes))) no_header
    ∙ ap (λ (b : Bool). given false b (nat_lt (length bytes) (16 + n)) (16 + n) made (drop k (drop (16 + n) bytes))) too_short
    ∙ ap (λ (b : Bool). given false false b (16 + n) made (drop k (drop (16 + n) bytes))) cut
    ∙ ap₂ (λ (x : Message) (xs : List ℕ). Ok (x, xs)) same rest
  where
    given : Bool → Bool → Bool → ℕ → Message → List ℕ → Outcome (Message × List ℕ)
    given a b c l x xs =
        if a then Err (Short 16 (length bytes)) else if b then Err (MessageTooShort l) else if c then Err (Short l (length bytes)) else Ok (x, xs)

    fields : {a b c d : ℕ} {p : List ℕ} → a ≡ m.kind → b ≡ m.flags → c ≡ m.sequence → d ≡ m.port → p ≡ m.payload
        → record { kind = a; flags = b; sequence = c; port = d; payload = p } ≡ m
    fields e f g h i = rw (e, f, g, h, i) refl

-- how many bytes a message has
pub length-message_bytes : (m : Message) → length (message_bytes m) ≡ 16 + length m.payload + padding (16 + length m.payload)
length-message_bytes m =
    let long = length (in_netlink m.kind m.flags m.sequence m.port m.payload) in
    let same : long ≡ 16 + length m.payload = omega arith in
    let pad : padding long ≡ padding (16 + length m.payload) = ap padding same in
    omega (arith, pad, length-append m.payload (zeros (padding long)), length-replicate {A = ℕ} (padding long) 0)

-- the number at the front of a message
pub length_at-message_bytes : (m : Message) (more : List ℕ) → 16 + length m.payload < 2 ^ 32 → length_at (message_bytes m ++ more) ≡ 16 + length m.payload
length_at-message_bytes m more small =
    let n = length m.payload in
    let turned : n + 16 ≡ 16 + n = omega arith in
    little_number-reads_back 4 (n + 16) [] (omega arith) ∙ turned

pub next_message-message_bytes : (m : Message) (more : List ℕ) → IsMessage m → 16 + length m.payload < 2 ^ 32
    → next_message (message_bytes m ++ more) ≡ Ok (m, more)
next_message-message_bytes m more is small =
    let long = length (in_netlink m.kind m.flags m.sequence m.port m.payload) in
    let same : long ≡ 16 + length m.payload = omega arith in
    let pad : padding long ≡ padding (16 + length m.payload) = ap padding same in
    let all : length (message_bytes m ++ more) ≡ length (message_bytes m) + length more = length-append (message_bytes m) more in
    let len = length-message_bytes m in
    read-message m (message_bytes m ++ more) (zeros (padding long) ++ more) more
    (append_assoc m.payload (zeros (padding long)) more) (drop_at (zeros (padding long)) more (padding (16 + length m.payload))
    (length-replicate {A = ℕ} (padding long) 0 ∙ pad))
    (length_at-message_bytes m more small)
    (little_number-reads_back 2 m.kind [] is.kind) (little_number-reads_back 2 m.flags [] is.flags)
    (little_number-reads_back 4 m.sequence [] is.sequence) (little_number-reads_back 4 m.port [] is.port)
    (omega (arith, all, len))

-- the last message of a packet, without padding
next_message-last : (m : Message) → IsMessage m → 16 + length m.payload < 2 ^ 32 → next_message (written_messages (m ∷ [])) ≡ Ok (m, [])
next_message-last m is small =
    let n = length m.payload in
    let turned : n + 16 ≡ 16 + n = omega arith in
    read-message m (written_messages (m ∷ [])) [] [] refl (drop_all (padding (16 + n)) [] (omega arith))
    (little_number-reads_back 4 (n + 16) [] (omega arith) ∙ turned)
    (little_number-reads_back 2 m.kind [] is.kind) (little_number-reads_back 2 m.flags [] is.flags)
    (little_number-reads_back 4 m.sequence [] is.sequence) (little_number-reads_back 4 m.port [] is.port)
    (omega (arith, length-append m.payload []))

-- a message is no zeros
pub are_zeros-message_bytes : (m : Message) (more : List ℕ) → 16 + length m.payload < 2 ^ 32 → are_zeros (message_bytes m ++ more) ≡ false
are_zeros-message_bytes m more small =
    let long = length_at-message_bytes m more small in
    are_zeros-number (message_bytes m ++ more) (omega (arith, long))

-- a message before others
next-up_to : (n : ℕ) (m : Message) (more : List ℕ) (found : List (Outcome Message)) → IsMessage m → 16 + length m.payload < 2 ^ 32
    → messages_up_to n more ≡ found → messages_up_to (suc n) (message_bytes m ++ more) ≡ Ok m ∷ found
unfolding messages_up_to
next-up_to n m more found is small later =
    ap (λ (z : Bool). if z then [] else message_and_rest (messages_up_to n) (next_message (message_bytes m ++ more))) (are_zeros-message_bytes m more small)
    ∙ ap (message_and_rest (messages_up_to n)) (next_message-message_bytes m more is small)
    ∙ ap (λ (rest : List (Outcome Message)). Ok m ∷ rest) later

none-up_to : (n : ℕ) → messages_up_to n [] ≡ []
unfolding messages_up_to
none-up_to zero = refl
none-up_to (suc n) = refl

up_to-messages_bytes : (n : ℕ) (messages : List Message) → All IsMessage messages → length (messages_bytes messages) < 2 ^ 32
    → length (messages_bytes messages) ≤ n → messages_up_to n (messages_bytes messages) ≡ map (λ (m : Message). Ok m) messages
up_to-messages_bytes n [] all small few = none-up_to n
up_to-messages_bytes zero (m ∷ messages) all small few = absurd (omega (
  arith,
  length-message_bytes m,
  length-append (message_bytes m)
      (messages_bytes messages),
))
up_to-messages_bytes (suc n) (m ∷ messages) all small few =
    let len = length-message_bytes m in
    let sum = length-append (message_bytes m) (messages_bytes messages) in
    next-up_to n m (messages_bytes messages) (map (λ (m : Message). Ok m) messages) (All-head IsMessage m messages all) (omega (arith, len, sum))
    (up_to-messages_bytes n messages (All-tail IsMessage m messages all) (omega (arith, len, sum)) (omega (arith, len, sum)))

pub messages_in-messages_bytes : (messages : List Message) → All IsMessage messages → length (messages_bytes messages) < 2 ^ 32
    → messages_in (messages_bytes messages) ≡ map (λ (m : Message). Ok m) messages
unfolding messages_in
messages_in-messages_bytes messages all small = up_to-messages_bytes (length (messages_bytes messages)) messages all small (omega arith)

-- ---- with nothing between messages

-- one that wants no padding
unpadded : (m : Message) → HasNoPadding m → message_bytes m ≡ in_netlink m.kind m.flags m.sequence m.port m.payload
unpadded m even =
    let bytes = in_netlink m.kind m.flags m.sequence m.port m.payload in
    let four : length bytes % 4 ≡ 0 = omega (arith, even) in
    let none : padding (length bytes) ≡ 0 = ap (λ (r : ℕ). (4 - r) % 4) four in
    ap (λ (k : ℕ). bytes ++ zeros k) none ∙ append-nil bytes

-- the last one
last-up_to : (n : ℕ) (m : Message) → IsMessage m → 16 + length m.payload < 2 ^ 32 → messages_up_to (suc n) (written_messages (m ∷ [])) ≡ Ok m ∷ []
unfolding messages_up_to
last-up_to n m is small =
    let long : length_at (written_messages (m ∷ [])) ≡ length m.payload + 16 = little_number-reads_back 4 (length m.payload + 16) [] (omega arith) in
    let some : are_zeros (written_messages (m ∷ [])) ≡ false = are_zeros-number (written_messages (m ∷ [])) (omega (arith, long)) in
    ap (λ (z : Bool). if z then [] else message_and_rest (messages_up_to n) (next_message (written_messages (m ∷ [])))) some
    ∙ ap (message_and_rest (messages_up_to n)) (next_message-last m is small)
    ∙ ap (λ (rest : List (Outcome Message)). Ok m ∷ rest) (none-up_to n)

-- how many bytes they have
length-written : (m : Message) (messages : List Message) → length (written_messages (m ∷ messages)) ≡ 16 + length m.payload + length (written_messages messages)
length-written m messages = omega (arith, length-append m.payload (written_messages messages))

up_to-written_messages : (n : ℕ) (messages : List Message) → All IsMessage messages → AreAligned messages → length (written_messages messages) < 2 ^ 32
    → length (written_messages messages) ≤ n → messages_up_to n (written_messages messages) ≡ map (λ (m : Message). Ok m) messages
up_to-written_messages n [] all aligned small few = none-up_to n
up_to-written_messages zero (m ∷ messages) all aligned small few = absurd (omega (arith, length-written m messages))
up_to-written_messages (suc n) (m ∷ []) all aligned small few =
    last-up_to n m (All-head IsMessage m [] all) (omega (arith, length-written m []))
up_to-written_messages (suc n) (m ∷ next ∷ messages) all aligned small few =
    let rest = written_messages (next ∷ messages) in
    let len = length-written m (next ∷ messages) in
    ap (λ (b : List ℕ). messages_up_to (suc n) (b ++ rest)) (sym (unpadded m aligned.0))
    ∙ next-up_to n m rest (map (λ (m : Message). Ok m) (next ∷ messages)) (All-head IsMessage m (next ∷ messages) all) (omega (arith, len))
    (up_to-written_messages n (next ∷ messages) (All-tail IsMessage m (next ∷ messages) all) aligned.1 (omega (arith, len)) (omega (arith, len)))

pub messages_in-written_messages : (messages : List Message) → All IsMessage messages → AreAligned messages → length (written_messages messages) < 2 ^ 32
    → messages_in (written_messages messages) ≡ map (λ (m : Message). Ok m) messages
unfolding messages_in
messages_in-written_messages messages all aligned small =
    up_to-written_messages (length (written_messages messages)) messages all aligned small (omega arith)

-- they have no more bytes than with padding
pub length-written_messages : (messages : List Message) → length (written_messages messages) ≤ length (messages_bytes messages)
length-written_messages [] = omega arith
length-written_messages (m ∷ messages) =
    omega (
      arith,
      length-written m messages,
      length-message_bytes m,
      length-append (message_bytes m)
          (messages_bytes messages),
      length-written_messages messages,
    )

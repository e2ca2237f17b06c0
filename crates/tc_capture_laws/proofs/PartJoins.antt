-- The parts of a file, joined, are the file.
use Rattle.std.proofs.Common.{◌≡◌, ℕ, zero, suc, ◌+◌, ◌-◌, ◌≤◌, List, [], ◌∷◌, ◌++◌, length, take, drop, Option, Some, None, Ok, Err, Bool, true, false, inl}
use Rattle.std.proofs.Common.{inr, refl, sym, ap, subst, ◌∙◌, arith}
use Rattle.std.specs.Prelude.{nat_lt, ◌==◌, if◌then◌else◌}
use Rattle.std.proofs.lemmas.Bool.{cases_lt}
use Rattle.std.proofs.lemmas.List.{append-nil, length-take, length-drop, take-append-drop, take-take, take_all, drop_all, drop-drop}
use Rattle.std.proofs.lemmas.List.Concat.{flat_map-append}
use Rattle.byteorder.specs.Endian.{big_number}
use Rattle.tc_capture.specs.declared.error.CaptureError.TheVariants.{Short, MessageTooShort}
use Rattle.tc_capture.specs.declared.packet.Link.{Link}
use Rattle.tc_capture.specs.declared.packet.Link.TheVariants.{Plain, Cooked, Other}
use Rattle.tc_capture.specs.Outcome.{Outcome}
use Rattle.tc_capture.specs.Message.{Message, padding, length_at, message_of_length, next_message}
use Rattle.tc_capture.specs.Messages.{are_zeros, message_and_rest, messages_up_to, messages_in}
use Rattle.tc_capture.specs.Packet.{Captured, route, contents_in}
use Rattle.tc_capture.specs.Capture.{State}
use Rattle.tc_capture.proofs.Steps.{length-next_message}
use Rattle.tc_capture_laws.specs.Fronts.{HoldsPacket}
use Rattle.tc_capture_laws.specs.Pieces as pieces
use Rattle.tc_capture_laws.specs.Pieces.{What, Piece, pieces_in}
use Rattle.tc_capture_laws.specs.Parts.{Part, part, before_last, message_and_more, message_parts_up_to, message_parts, contents_parts, read_parts}
use Rattle.tc_capture_laws.specs.Parts.{what_parts, parts_in, joined, messages_of, zeros, format}
use Rattle.tc_capture_laws.proofs.FrontPieces.{passes}
use Rattle.tc_capture_laws.proofs.EachPiece.{each-piece}

-- what comes before the end of a list, and the end
before : (k : ℕ) (xs : List ℕ) → before_last (length (drop k xs)) xs ++ drop k xs ≡ xs
before k xs = elim (cases_lt (length xs) k) [
  | inl past ↦
      let none : drop k xs ≡ [] = drop_all k xs (omega arith) in
      let all : length xs - length (drop k xs) ≡ length xs = omega (arith, length-drop k xs) in
      rw (all, none) (append-nil (take (length xs) xs) ∙ take_all (length xs) xs (omega arith))
  | inr within ↦
      let front : length xs - length (drop k xs) ≡ k = omega (arith, length-drop k xs) in
      rw front (take-append-drop k xs)
]

joined-append : (xs ys : List Part) → joined (xs ++ ys) ≡ joined xs ++ joined ys
joined-append xs ys = flat_map-append (λ (p : Part). p.bytes) xs ys

-- what follows a message is an end of the bytes
next-after : (bytes : List ℕ) (next : Message × List ℕ) → next_message bytes ≡ Ok next
    → next.1 ≡ drop (padding (length_at bytes)) (drop (length_at bytes) bytes)
unfolding next_message
next-after bytes next is =
    let long = length_at bytes in
    let rest3 : Outcome (Message × List ℕ) = Ok (message_of_length long bytes, drop (padding long) (drop long bytes)) in
    let rest2 : Outcome (Message × List ℕ) = if nat_lt (length bytes) long then Err (Short long (length bytes)) else rest3 in
    let rest1 : Outcome (Message × List ℕ) = if nat_lt long 16 then Err (MessageTooShort long) else rest2 in
    let header = passes (nat_lt (length bytes) 16) (Short 16 (length bytes)) rest1 next is in
    let enough = passes (nat_lt long 16) (MessageTooShort long) rest2 next header.1 in
    let all = passes (nat_lt (length bytes) long) (Short long (length bytes)) rest3 next enough.1 in
    let same : (message_of_length long bytes, drop (padding long) (drop long bytes)) ≡ next = cc in
    sym (ap (λ (n : Message × List ℕ). n.1) same)

up_to-joined : (n : ℕ) (bytes : List ℕ) → length bytes ≤ n → joined (message_parts_up_to n bytes) ≡ bytes
unfolding message_parts_up_to
up_to-joined zero [] few = refl
up_to-joined zero (b ∷ bytes) few = absurd (omega arith)
up_to-joined (suc n) bytes few =
    tests (are_zeros bytes) (next_message bytes) refl (λ after less. up_to-joined n after less)
  where
    tests : (z : Bool) (found : Outcome (Message × List ℕ)) → next_message bytes ≡ found → ((after : List ℕ) → length after ≤ n
        → joined (message_parts_up_to n after) ≡ after)
        → joined (if z then part zeros bytes else message_and_more (message_parts_up_to n) bytes found) ≡ bytes
    tests true found is later = append-nil bytes
    tests false (Err e) is later = append-nil bytes
    tests false (Ok next) is later =
        let less = length-next_message bytes next is in
        let long = length_at bytes in
        let after : next.1 ≡ drop (long + padding long) bytes = next-after bytes next is ∙ drop-drop (padding long) long bytes in
        ap (λ (rest : List ℕ). before_last (length next.1) bytes ++ rest) (later next.1 (omega arith))
        ∙ ap (λ (rest : List ℕ). before_last (length rest) bytes ++ rest) after
        ∙ before (long + padding long) bytes

message_parts-joined : (bytes : List ℕ) → joined (message_parts bytes) ≡ bytes
unfolding message_parts
message_parts-joined bytes = up_to-joined (length bytes) bytes (omega arith)

-- the messages of a packet are an end of its bytes
contents-joined : (bytes : List ℕ) (k : ℕ) (packet_type : Option ℕ) → joined (contents_parts bytes (Ok (route packet_type (drop k bytes)))) ≡ bytes
contents-joined bytes k packet_type =
    ap (λ (rest : List ℕ). before_last (length (drop k bytes)) bytes ++ rest) (message_parts-joined (drop k bytes)) ∙ before k bytes

cooked-joined : (bytes : List ℕ) (a b : Bool) → nat_lt (length bytes) 16 ≡ a → (big_number 2 (drop 14 bytes) == 0) ≡ b
    → joined (contents_parts bytes (contents_in Cooked bytes)) ≡ bytes
cooked-joined bytes true b is which = rw is (append-nil bytes)
cooked-joined bytes false true is which = rw (is, which) (contents-joined bytes 16 (Some (big_number 2 bytes)))
cooked-joined bytes false false is which = rw (is, which) (append-nil bytes)

held-joined : (link : Link) (bytes : List ℕ) → joined (contents_parts bytes (contents_in link bytes)) ≡ bytes
held-joined Plain bytes = contents-joined bytes 0 None
held-joined Cooked bytes = cooked-joined bytes _ _ refl refl
held-joined (Other n) bytes = append-nil bytes

read-joined : (packet : Outcome (Option Captured)) (bytes : List ℕ) → HoldsPacket bytes packet → joined (read_parts packet bytes) ≡ bytes
read-joined (Err e) bytes holds = append-nil bytes
read-joined (Ok None) bytes holds = append-nil bytes
read-joined (Ok (Some p)) bytes holds =
    let n = length p.bytes in
    let inner = contents_parts p.bytes (contents_in p.link p.bytes) in
    let last = part format (drop (p.at + n) bytes) in
    let held : joined (inner ++ last) ≡ p.bytes ++ drop (p.at + n) bytes =
    joined-append inner last ∙ ap (λ (front : List ℕ). front ++ joined last) (held-joined p.link p.bytes)
    ∙ ap (λ (end : List ℕ). p.bytes ++ end) (append-nil (drop (p.at + n) bytes)) in
    let back : p.bytes ++ drop (p.at + n) bytes ≡ drop p.at bytes =
    ap (λ (front : List ℕ). front ++ drop (p.at + n) bytes) holds
    ∙ ap (λ (end : List ℕ). take n (drop p.at bytes) ++ end) (sym (drop-drop n p.at bytes))
    ∙ take-append-drop n (drop p.at bytes) in
    ap (λ (end : List ℕ). take p.at bytes ++ end) (held ∙ back) ∙ take-append-drop p.at bytes

-- the parts of a piece before those of the next ones
more-joined : (what : What) (bytes : List ℕ) (more : List Piece) (after : List ℕ) → joined (what_parts what bytes) ≡ bytes → joined (parts_in more) ≡ after
    → joined (parts_in (record { what = what; bytes = bytes } ∷ more)) ≡ bytes ++ after
more-joined what bytes more after this later =
    joined-append (what_parts what bytes) (parts_in more)
    ∙ ap (λ (front : List ℕ). front ++ joined (parts_in more)) this ∙ ap (λ (end : List ℕ). bytes ++ end) later

pub parts-join : (most : ℕ) (s : State) (bytes : List ℕ) → joined (parts_in (pieces_in most s bytes)) ≡ bytes
parts-join most s bytes =
    each-piece most (λ (bytes : List ℕ) (found : List Piece). joined (parts_in found) ≡ bytes) refl
    (λ s bytes next more front later.
    let within : next.0.used ≤ most = omega (arith, length-take most bytes, front.within) in
    let piece : take next.0.used (take most bytes) ≡ take next.0.used bytes = take-take next.0.used most bytes within in
    let holds = subst (λ (b : List ℕ). HoldsPacket b next.0.packet) piece front.packet in
    more-joined (pieces.read next.0.packet) (take next.0.used bytes) more (drop next.0.used bytes)
    (read-joined next.0.packet (take next.0.used bytes) holds) later
    ∙ take-append-drop next.0.used bytes)
    (λ needed bytes more long here later.
    more-joined pieces.skipped (take needed bytes) more (drop needed bytes) (append-nil (take needed bytes)) later ∙ take-append-drop needed bytes)
    (λ e bytes some. append-nil bytes) s bytes

-- ---- the messages among the parts

up_to-messages : (n : ℕ) (bytes : List ℕ) → messages_of (message_parts_up_to n bytes) ≡ messages_up_to n bytes
unfolding message_parts_up_to messages_up_to
up_to-messages zero bytes = refl
up_to-messages (suc n) bytes = tests (are_zeros bytes) (next_message bytes) (λ after. up_to-messages n after)
  where
    tests : (z : Bool) (found : Outcome (Message × List ℕ)) → ((after : List ℕ) → messages_of (message_parts_up_to n after) ≡ messages_up_to n after)
        → messages_of (if z then part zeros bytes else message_and_more (message_parts_up_to n) bytes found)
        ≡ (if z then [] else message_and_rest (messages_up_to n) found)
    tests true found same = refl
    tests false (Err e) same = refl
    tests false (Ok next) same = ap (λ (rest : List (Outcome Message)). Ok next.0 ∷ rest) (same next.1)

pub parts-messages : (bytes : List ℕ) → messages_of (message_parts bytes) ≡ messages_in bytes
unfolding message_parts messages_in
parts-messages bytes = up_to-messages (length bytes) bytes

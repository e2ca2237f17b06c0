-- The next item of an iterator over messages.
use Rattle.std.proofs.Common.{◌≡◌, ℕ, zero, suc, ◌+◌, ◌≤◌, List, [], ◌∷◌, length, drop, Ok, Err, Bool, true, false, refl, ap, arith}
use Rattle.std.proofs.lemmas.Bool.{ltb-false}
use Rattle.std.proofs.lemmas.List.{length-drop}
use Rattle.std.specs.Prelude.{nat_lt, if◌then◌else◌}
use Rattle.tc_capture.specs.declared.error.CaptureError.{CaptureError}
use Rattle.tc_capture.specs.declared.error.CaptureError.TheVariants.{Short, MessageTooShort}
use Rattle.tc_capture.specs.Outcome.{Outcome}
use Rattle.tc_capture.specs.Message.{Message, padding, length_at, message_of_length, next_message}
use Rattle.tc_capture.specs.Messages.{are_zeros, message_and_rest, messages_up_to, messages_in}

-- what `next_message` gives by the outcomes of its three tests
abbrev found : List ℕ → Bool → Bool → Bool → Outcome (Message × List ℕ)
found bytes no_header too_short cut =
    let long = length_at bytes in
    if no_header then Err (Short 16 (length bytes)) else
    if too_short then Err (MessageTooShort long) else
    if cut then Err (Short long (length bytes)) else
    Ok (message_of_length long bytes, drop (padding long) (drop long bytes))

-- a message takes sixteen bytes at least
pub length-next_message : (bytes : List ℕ) (next : Message × List ℕ) → next_message bytes ≡ Ok next → length next.1 + 16 ≤ length bytes
unfolding next_message
length-next_message bytes next is =
    tests (nat_lt (length bytes) 16) refl (nat_lt (length_at bytes) 16) refl (nat_lt (length bytes) (length_at bytes)) refl is
  where
    tests : (a : Bool) → nat_lt (length bytes) 16 ≡ a → (b : Bool) → nat_lt (length_at bytes) 16 ≡ b → (c : Bool) → nat_lt (length bytes) (length_at bytes) ≡ c
        → found bytes a b c ≡ Ok next → length next.1 + 16 ≤ length bytes
    tests true p b q c r is = absurd cc
    tests false p true q c r is = absurd cc
    tests false p false q true r is = absurd cc
    tests false p false q false r is =
        let long = length_at bytes in
        let rest : (message_of_length long bytes, drop (padding long) (drop long bytes)) ≡ next = cc in
        let after : drop (padding long) (drop long bytes) ≡ next.1 = ap (λ (n : Message × List ℕ). n.1) rest in
        let header : 16 ≤ long = ltb-false _ _ q in
        let whole : long ≤ length bytes = ltb-false _ _ r in
        omega (arith, ap length after, length-drop (padding long) (drop long bytes), length-drop long bytes)

-- enough steps are as good as more
enough_steps : (n m : ℕ) (bytes : List ℕ) → length bytes ≤ n → length bytes ≤ m → messages_up_to n bytes ≡ messages_up_to m bytes
unfolding messages_up_to
enough_steps zero zero bytes h k = refl
enough_steps zero (suc m) [] h k = refl
enough_steps (suc n) zero [] h k = refl
enough_steps zero (suc m) (b ∷ bytes) h k = absurd (omega arith)
enough_steps (suc n) zero (b ∷ bytes) h k = absurd (omega arith)
enough_steps (suc n) (suc m) bytes h k =
    ap (λ (found : List (Outcome Message)). if are_zeros bytes then [] else found)
    (go (λ (after : List ℕ) (p : length after ≤ n) (q : length after ≤ m). enough_steps n m after p q) (next_message bytes) refl)
  where
    go : ((after : List ℕ) → length after ≤ n → length after ≤ m → messages_up_to n after ≡ messages_up_to m after)
        → (next : Outcome (Message × List ℕ)) → next_message bytes ≡ next
        → message_and_rest (messages_up_to n) next ≡ message_and_rest (messages_up_to m) next
    go same (Ok next) e =
        let less : length next.1 + 16 ≤ length bytes = length-next_message bytes next e in
        ap (λ (rest : List (Outcome Message)). Ok next.0 ∷ rest) (same next.1 (omega arith) (omega arith))
    go same (Err fault) e = refl

-- zeros are no messages
pub messages_in-zeros : (bytes : List ℕ) → are_zeros bytes ≡ true → messages_in bytes ≡ []
unfolding messages_in messages_up_to
messages_in-zeros [] zeros = refl
messages_in-zeros (b ∷ bytes) zeros = rw zeros refl

-- the next message, and those after it
pub messages_in-Ok : (bytes : List ℕ) (next : Message × List ℕ) → are_zeros bytes ≡ false → next_message bytes ≡ Ok next
    → messages_in bytes ≡ Ok next.0 ∷ messages_in next.1
unfolding messages_in messages_up_to
messages_in-Ok [] next some is = absurd cc
messages_in-Ok (b ∷ bytes) next some is =
    let less : length next.1 + 16 ≤ suc (length bytes) = length-next_message (b ∷ bytes) next is in
    rw (some, is) (ap (λ (rest : List (Outcome Message)). Ok next.0 ∷ rest) (enough_steps (length bytes) (length next.1) next.1 (omega arith) (omega arith)))

-- a fault, and nothing after it
pub messages_in-Err : (bytes : List ℕ) (e : CaptureError) → are_zeros bytes ≡ false → next_message bytes ≡ Err e → messages_in bytes ≡ Err e ∷ messages_in []
unfolding messages_in messages_up_to
messages_in-Err [] e some fault = absurd cc
messages_in-Err (b ∷ bytes) e some fault = rw (some, fault) refl

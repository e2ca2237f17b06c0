-- The messages of a packet, one after the other.
use Rattle.std.specs.Prelude.{ℕ, zero, suc, Bool, List, [], ◌∷◌, length, Ok, Err, ◌==◌, if◌then◌else◌}
use Rattle.std.specs.List.{list_all}
use Rattle.tc_capture.specs.declared.messages.Messages.{Messages}
use Rattle.tc_capture.specs.Outcome.{Outcome}
use Rattle.tc_capture.specs.Message.{Message, next_message}

-- only zeros: after the last message of a packet Linux ignores them
abbrev pub are_zeros : List ℕ → Bool
are_zeros bytes = list_all (λ b. b == 0) bytes

-- the next message before those of what follows it; a fault ends them
abbrev pub message_and_rest : (List ℕ → List (Outcome Message)) → Outcome (Message × List ℕ) → List (Outcome Message)
message_and_rest rest_of (Ok next) = Ok next.0 ∷ rest_of next.1
message_and_rest rest_of (Err e) = Err e ∷ []

-- at most n of them
unfoldable pub messages_up_to : ℕ → List ℕ → List (Outcome Message)
messages_up_to zero bytes = []
messages_up_to (suc n) bytes = if are_zeros bytes then [] else message_and_rest (messages_up_to n) (next_message bytes)

-- the messages at the front of the bytes, then the fault if one is broken; a message has at least one byte
unfoldable pub messages_in : List ℕ → List (Outcome Message)
messages_in bytes = messages_up_to (length bytes) bytes

-- the items that an iterator has left
abbrev pub messages_left : Messages → List (Outcome Message)
messages_left it = messages_in it.rest.now

-- the bytes that it has left
abbrev pub left_of : Messages → List ℕ
left_of it = it.rest.now

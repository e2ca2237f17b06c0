-- An answer of the kernel to a request: a netlink message of the type NLMSG_ERROR. Its payload is `struct nlmsgerr`:
-- the negative number of the error at 0 (four bytes), 0 for an acknowledgement, and from 4 on the request: with the
-- flag NLM_F_CAPPED only its netlink header, otherwise all of it. After it are attributes: NLMSGERR_ATTR_MSG, a text,
-- and NLMSGERR_ATTR_OFFS, the offset of the fault in the request, from the beginning of its netlink header.
use Rattle.std.specs.Prelude.{ℕ, ◌-◌, ◌/◌, ◌%◌, ◌^◌, List, length, drop, Bool, ◌&&◌, Option, Some, None, Ok, Err, nat_lt, nat_le, ◌==◌, option_map, if◌then◌else◌}
use Rattle.byteorder.specs.Endian.{little_number}
use Rattle.tc_capture.specs.declared.answer.Answer.{Answer as DeclaredAnswer}
use Rattle.tc_capture.specs.declared.entries.Entries.TheVariants.{Attributes}
use Rattle.tc_capture.specs.declared.error.CaptureError.TheVariants.{Short}
use Rattle.tc_capture.specs.Entries.{entry_in}
use Rattle.tc_capture.specs.Message.{Message, message_of, message_of_length, next_message}
use Rattle.tc_capture.specs.Outcome.{Outcome}

pub record Answer : Type 0 where
  pub error : ℕ
  pub request : Message
  pub is_capped : Bool
  pub text : Option (List ℕ)
  pub offset : Option ℕ

-- the abstract value of an answer
abbrev pub answer_of : DeclaredAnswer → Answer
answer_of a = record {
  error = a.error;
  request = message_of a.request;
  is_capped = a.is_capped;
  text = option_map (λ text. text.now) a.text;
  offset = a.offset;
}

-- the flag NLM_F_CAPPED
abbrev pub is_capped : ℕ → Bool
is_capped flags = flags / 0x100 % 2 == 1

-- the number of the error
abbrev pub error_at : List ℕ → ℕ
error_at bytes = (2 ^ 32 - little_number 4 bytes) % 2 ^ 32

-- the request at the front, all of it or its header, and the bytes after it
abbrev pub request_at : Bool → List ℕ → Outcome (Message × List ℕ)
request_at capped bytes =
    if capped then (if nat_lt (length bytes) 16 then Err (Short 16 (length bytes)) else Ok (message_of_length 16 bytes, drop 16 bytes)) else next_message bytes

abbrev pub offset_of : Option (List ℕ) → Option ℕ
offset_of None = None
offset_of (Some value) = if length value == 4 then Some (little_number 4 value) else None

-- an answer to a request, with these attributes after it
abbrev pub answer_to : Bool → ℕ → Outcome (Message × List ℕ) → Option Answer
answer_to capped error (Ok quoted) = Some (record {
  error = error;
  request = quoted.0;
  is_capped = capped;
  text = entry_in Attributes 1 quoted.1;
  offset = offset_of (entry_in Attributes 2 quoted.1);
})
answer_to capped error (Err e) = None

-- the answer in a netlink message
unfoldable pub answer_in : Message → Option Answer
answer_in m =
    if m.kind == 2 && nat_le 4 (length m.payload) then answer_to (is_capped m.flags) (error_at m.payload) (request_at (is_capped m.flags) (drop 4 m.payload))
    else None

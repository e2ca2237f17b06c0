-- One netlink message. It begins with `struct nlmsghdr`, little-endian: nlmsg_len at 0 (four bytes), nlmsg_type at 4
-- (two), nlmsg_flags at 6 (two), nlmsg_seq at 8 (four), nlmsg_pid at 12 (four). The payload follows, then padding up
-- to a multiple of four bytes; nlmsg_len is the length of header and payload.
use Rattle.std.specs.Prelude.{ℕ, ◌-◌, ◌%◌, List, length, take, drop, Ok, Err, nat_lt, if◌then◌else◌}
use Rattle.byteorder.specs.Endian.{little_number}
use Rattle.tc_capture.specs.declared.error.CaptureError.TheVariants.{Short, MessageTooShort}
use Rattle.tc_capture.specs.declared.message.NetlinkMessage.{NetlinkMessage}
use Rattle.tc_capture.specs.Outcome.{Outcome}

pub record Message : Type 0 where
  pub kind : ℕ
  pub flags : ℕ
  pub sequence : ℕ
  pub port : ℕ
  pub payload : List ℕ

-- the abstract value of a message
abbrev pub message_of : NetlinkMessage → Message
message_of m = record { kind = m.kind; flags = m.flags; sequence = m.sequence; port = m.port; payload = m.payload.now }

-- the length of the padding after n bytes
abbrev pub padding : ℕ → ℕ
padding n = (4 - n % 4) % 4

abbrev pub length_at : List ℕ → ℕ
length_at bytes = little_number 4 bytes

-- the message of the first n bytes
abbrev pub message_of_length : ℕ → List ℕ → Message
message_of_length n bytes = record {
  kind = little_number 2 (drop 4 bytes);
  flags = little_number 2 (drop 6 bytes);
  sequence = little_number 4 (drop 8 bytes);
  port = little_number 4 (drop 12 bytes);
  payload = drop 16 (take n bytes);
}

-- the first message, and the bytes after it and after as much of its padding as is there
unfoldable pub next_message : List ℕ → Outcome (Message × List ℕ)
next_message bytes =
    let long = length_at bytes in
    if nat_lt (length bytes) 16 then Err (Short 16 (length bytes)) else
    if nat_lt long 16 then Err (MessageTooShort long) else
    if nat_lt (length bytes) long then Err (Short long (length bytes)) else
    Ok (message_of_length long bytes, drop (padding long) (drop long bytes))

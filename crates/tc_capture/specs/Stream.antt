-- A file of netlink messages with nothing between them, as `rtmon` and `tc monitor` write it: each message with its
-- full padding. A message of the type NLMSG_TSTAMP has seconds and microseconds, four bytes each, little-endian: the
-- time of the messages that follow it.
use Rattle.std.specs.Prelude.{ℕ, ◌+◌, ◌*◌, List, length, take, drop, Bool, true, ◌&&◌, Option, Some, None, Ok, Err, nat_lt, nat_le, ◌==◌, if◌then◌else◌}
use Rattle.byteorder.specs.Endian.{little_number}
use Rattle.tc_capture.specs.declared.error.CaptureError.TheVariants.{Short, MessageTooShort}
use Rattle.tc_capture.specs.declared.packet.Link.TheVariants.{Plain}
use Rattle.tc_capture.specs.declared.time.Time.{Time}
use Rattle.tc_capture.specs.Outcome.{Outcome}
use Rattle.tc_capture.specs.Time.{time_of}
use Rattle.tc_capture.specs.Message.{length_at, padding}
use Rattle.tc_capture.specs.Front.{Front}

-- the message at the front is a time
abbrev pub is_time : List ℕ → Bool
is_time bytes = little_number 2 (drop 4 bytes) == 15 && nat_le 24 (length_at bytes)

abbrev pub time_at_front : List ℕ → Time
time_at_front bytes = time_of (little_number 4 (drop 16 bytes) * 1000000 + little_number 4 (drop 20 bytes)) 1000000

-- the message of the first n bytes, after a time, and the time after it
abbrev pub front_of_length : ℕ → Option Time → List ℕ → Front × Option Time
front_of_length n time bytes =
    if is_time bytes then (record { used = n; packet = Ok None }, Some (time_at_front bytes)) else
    (record { used = n; packet = Ok (Some (record { time = time; link = Plain; is_whole = true; at = 0; bytes = take n bytes })) }, time)

-- the message at the front
unfoldable pub next_in_stream : Option Time → List ℕ → Outcome (Front × Option Time)
next_in_stream time bytes =
    let long = length_at bytes in
    let whole = long + padding long in
    if nat_lt (length bytes) 16 then Err (Short 16 (length bytes)) else
    if nat_lt long 16 then Err (MessageTooShort long) else
    if nat_lt (length bytes) whole then Err (Short whole (length bytes)) else
    Ok (front_of_length whole time bytes)

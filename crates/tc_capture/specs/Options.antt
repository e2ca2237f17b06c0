-- The options of an interface about its times.
use Rattle.std.specs.Prelude.{ℕ, ◌+◌, ◌-◌, ◌^◌, List, [], ◌∷◌, length, Option, Some, None, nat_lt, ◌==◌, if◌then◌else◌}
use Rattle.tc_capture.specs.declared.entries.Entries.TheVariants.{Options}
use Rattle.tc_capture.specs.declared.order.Order.{Order}
use Rattle.tc_capture.specs.declared.time.Time.{Time}
use Rattle.tc_capture.specs.Order.{number}
use Rattle.tc_capture.specs.Entries.{entry_in}

abbrev pub in_u64 : ℕ → Option ℕ
in_u64 n = if nat_lt n (2 ^ 64) then Some n else None

-- the number of time units in a second, from the option if_tsresol: a power of ten, or with the top bit set a power of
-- two
abbrev pub units_of : ℕ → Option ℕ
units_of resolution = if nat_lt resolution 128 then in_u64 (10 ^ resolution) else in_u64 (2 ^ (resolution - 128))

-- microseconds if there is no such option
abbrev pub units_by : Option (List ℕ) → Option ℕ
units_by None = Some 1000000
units_by (Some (resolution ∷ [])) = units_of resolution
units_by (Some _) = None

abbrev pub units_in : Order → List ℕ → Option ℕ
units_in order bytes = units_by (entry_in (Options order) 9 bytes)

-- the seconds to add to each time, from the option if_tsoffset: eight bytes, in two's complement; 0 if there is no
-- such option
abbrev pub shift_by : Order → Option (List ℕ) → Option ℕ
shift_by order None = Some 0
shift_by order (Some value) = if length value == 8 then Some (number order 8 value) else None

abbrev pub shift_in : Order → List ℕ → Option ℕ
shift_in order bytes = shift_by order (entry_in (Options order) 14 bytes)

-- seconds shifted in two's complement, if that is a time
abbrev pub seconds_later : ℕ → ℕ → Option ℕ
seconds_later shift seconds =
    if nat_lt shift (2 ^ 63) then in_u64 (seconds + shift) else
    if nat_lt (seconds + shift) (2 ^ 64) then None else Some (seconds + shift - 2 ^ 64)

abbrev pub with_seconds : Time → Option ℕ → Option Time
with_seconds time None = None
with_seconds time (Some seconds) = Some (record { seconds = seconds; nanoseconds = time.nanoseconds })

abbrev pub later : ℕ → Time → Option Time
later shift time = with_seconds time (seconds_later shift time.seconds)

-- Times of capture.
use Rattle.std.specs.Prelude.{ℕ, ◌*◌, ◌/◌, ◌%◌}
use Rattle.tc_capture.specs.declared.time.Time.{Time}

-- the time at `ticks`, with `per_second` ticks a second
abbrev pub time_of : ℕ → ℕ → Time
time_of ticks per_second = record { seconds = ticks / per_second; nanoseconds = ticks % per_second * 1000000000 / per_second }

-- `tcm_info` of a filter.
use Rattle.std.specs.Prelude.{ℕ, ◌+◌, ◌*◌, ◌/◌, ◌%◌}

-- a 16-bit number with its two bytes swapped
abbrev pub exchanged : ℕ → ℕ
exchanged n = n % 0x100 * 0x100 + n / 0x100

-- `TC_H_MAKE(priority << 16, htons(protocol))` on a little-endian machine, with the protocol as EtherType (0x0800 for
-- IPv4): the priority in the upper half; the protocol in the lower half with its bytes swapped, so that they are in
-- network order on the wire
abbrev pub filter_info : ℕ → ℕ → ℕ
filter_info priority protocol = priority * 0x10000 + exchanged protocol

-- the priority in `tcm_info`
abbrev pub priority_of : ℕ → ℕ
priority_of info = info / 0x10000

-- the protocol in `tcm_info`
abbrev pub protocol_of : ℕ → ℕ
protocol_of info = exchanged (info % 0x10000)

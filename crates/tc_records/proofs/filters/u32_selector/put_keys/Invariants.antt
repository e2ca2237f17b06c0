use Rattle.std.proofs.Common.{◌≡◌, ◌*◌}
use Rattle.nla_frames.specs.Emission.{Writes}
use Rattle.tc_records.proofs.Keys.{bytes_before, TypedBefore}
use Rattle.tc_records.proofs.filters.u32_selector.put_keys.Given as goal

-- the keys so far are written, `at` is where they end, and they are typed
abbrev pub invariant-loop-key : goal.invariant-loop-key
invariant-loop-key l =
    (l.at ≡ 16 * l.key-index)
    × Writes (bytes_before l.keys l.key-index) l.initial.buffer l.buffer
    × TypedBefore l.keys l.key-index

use Rattle.std.proofs.Common.{◌≡◌, ◌≤◌, ◌-◌, ◌*◌, ◌++◌, length, map}
use Rattle.tc_meaning.specs.Content.{read_keys}
use Rattle.tc_records.specs.Selector.{key_scalars}
use Rattle.tc_records.proofs.filters.u32_selector.parse_keys.Given as goal

-- the keys so far and those that are left are all keys
abbrev pub invariant-loop : goal.invariant-loop
invariant-loop g l =
    (map key_scalars l.keys.items ++ read_keys (l.count - l.counter) l.fields.0.now ≡ read_keys l.count l.fields-2.0.now)
    × (16 * (l.count - l.counter) ≤ length l.fields.0.now)

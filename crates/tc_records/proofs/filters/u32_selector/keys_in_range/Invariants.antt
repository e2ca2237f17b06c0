use Rattle.tc_records.proofs.Keys.{TypedBefore}
use Rattle.tc_records.proofs.filters.u32_selector.keys_in_range.Given as goal

abbrev pub invariant-loop-key : goal.invariant-loop-key
invariant-loop-key l = TypedBefore l.keys l.key-index

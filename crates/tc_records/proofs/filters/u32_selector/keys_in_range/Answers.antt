use Rattle.std.proofs.Common.{arith}
use Rattle.tc_records.proofs.Keys.{none_typed, next_typed, all_typed}
use Rattle.tc_records.proofs.filters.u32_selector.keys_in_range.Goals as goal

pub loop-key-init : goal.loop-key-init
loop-key-init c = none_typed c.args.keys.now

pub loop-key-preserved : goal.loop-key-preserved
loop-key-preserved c = next_typed c.args.keys.now c.loop-key.key-index _ c.loop-key-test.true c.loop-key.invariant c.ref_in_range.ensures.typed

pub returns : goal.returns
returns c = all_typed c.args.keys.now c.loop-key.key-index (omega arith) c.loop-key.invariant

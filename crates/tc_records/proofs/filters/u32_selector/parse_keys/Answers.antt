use Rattle.std.proofs.Common.{arith, ap, map}
use Rattle.std.proofs.lemmas.List.{drop-drop}
use Rattle.nla_frames.specs.Fault.{read_as}
use Rattle.tc_records.specs.Selector.{key_scalars}
use Rattle.tc_records.proofs.Keys.{no_keys_read, one_key_more, all_keys_read}
use Rattle.tc_records.proofs.filters.u32_selector.parse_keys.Goals as goal

pub loop-init : goal.loop-init
loop-init g c = rw c.in_ok-keys.ensures.items (no_keys_read c.args.count c.args.fields.0.now, omega (arith, c.requires))

pub read-requires : goal.read-requires
read-requires g c = omega (arith, c.loop.invariant.1)

pub loop-preserved : goal.loop-preserved
loop-preserved g c =
    let more = one_key_more c.args.count c.loop.counter _ _ _ _ c.loop-test.true c.loop.invariant.0 c.read.ensures.value in
    (rw (c.in_ok-push.ensures.items, c.read.ensures.rest, drop-drop, drop-drop, drop-drop) more, omega (arith, c.loop.invariant.1, c.read.ensures.left))

pub returns : goal.returns
returns g c = ap read_as (all_keys_read c.args.count c.loop.counter _ (map key_scalars c.loop.keys.items) _ (omega arith) c.loop.invariant.0)

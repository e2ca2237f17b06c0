use Rattle.std.proofs.Common.{◌≡◌, ◌-◌, ◌*◌, length, drop, arith, subst, length-drop}
use Rattle.std.proofs.lemmas.List.{length-take}
use Rattle.std.proofs.lemmas.Grind.{common_steps}
use Rattle.nla_frames.specs.Emission.{Writes}
use Rattle.tc_records.proofs.Keys.{bytes_before, nothing_before, all_before, length-keys, next_written, none_typed, next_typed, all_typed}
use Rattle.tc_records.proofs.filters.u32_selector.put_keys.Goals as goal

pub loop-key-init : goal.loop-key-init
loop-key-init c =
    let none : (0 ≡ 16 * 0) × Writes (bytes_before c.args.keys.now 0) c.args.buffer.now c.args.buffer.now = rw nothing_before (grind (arith, common_steps)) in
    (none.0, none.1, none_typed c.args.keys.now)

pub slice_bounds-emit-count : goal.slice_bounds-emit-count
slice_bounds-emit-count c = omega (arith, length-keys c.args.keys.now)

pub emit-requires-clause-room : goal.emit-requires-clause-room
emit-requires-clause-room c =
    let at = c.loop-key.at in
    let now = c.loop-key.buffer in
    omega (arith, length-keys c.args.keys.now, length-take (length now - at) (drop at now), length-drop at now)

pub loop-key-preserved : goal.loop-key-preserved
loop-key-preserved c =
    let at = c.loop-key.invariant.0 in
    let before = c.loop-key.invariant.1 in
    let written = next_written c.args.keys.now c.loop-key.key-index _ _ _ _ _ c.loop-key-test.true at c.requires before c.emit.ensures.written in
    (omega arith, written, next_typed c.args.keys.now c.loop-key.key-index _ c.loop-key-test.true c.loop-key.invariant.2 c.emit.ensures.typed)

pub returns-clause-typed : goal.returns-clause-typed
returns-clause-typed c = all_typed c.args.keys.now c.loop-key.key-index (omega arith) c.loop-key.invariant.2

pub returns-clause-written : goal.returns-clause-written
returns-clause-written c =
    let all = all_before c.args.keys.now c.loop-key.key-index (omega arith) in
    subst (λ bytes. Writes bytes c.args.buffer.now c.loop-key.buffer) all c.loop-key.invariant.1

pub slice_bounds-emit-start : goal.slice_bounds-emit-start
slice_bounds-emit-start c = omega (arith, length-keys c.args.keys.now)

use Rattle.std.proofs.Common.{[], take, drop, ◌+◌, refl, sym, ap, subst, ◌∙◌}
use Rattle.tc_changes.specs.Model.{ready}
use Rattle.tc_changes.specs.Objects.{thing, things, same_key, IsSetOf}
use Rattle.tc_changes.proofs.Wholes.{passed}
use Rattle.tc_changes.proofs.Indexes.{set_more}
use Rattle.tc_changes.proofs.Firsts.{not_ready, ready_more, passed-push, things_split, things_more}
use Rattle.tc_changes.proofs.order.stuck.Goals as goal

pub returns-then-not-is_next-clause-none : goal.returns-then-not-is_next-clause-none
returns-then-not-is_next-clause-none g c =
    let i = c.loop-object.object-index in
    let xs = c.args.objects.now in
    let x = c.object-item.result in
    let front = things (take i xs) in
    let is = c.if-not-is_next.ensures (passed [] front) c.loop-object.invariant.keys in
    sym (ap (ready same_key []) (sym (things_split xs i x c.loop-object-test.true c.object-item.is))
    ∙ not_ready same_key front (thing x) (things (drop (i + 1) xs)) (sym is))

pub returns-then-not-is_next-clause-some : goal.returns-then-not-is_next-clause-some
returns-then-not-is_next-clause-some g c =
    let i = c.loop-object.object-index in
    let xs = c.args.objects.now in
    let x = c.object-item.result in
    let front = things (take i xs) in
    let is = c.if-not-is_next.ensures (passed [] front) c.loop-object.invariant.keys in (
      front,
      thing x,
      things (drop (i + 1) xs),
      sym (things_split xs i x c.loop-object-test.true c.object-item.is),
      refl,
      c.loop-object.invariant.order,
      not_ready same_key front (thing x) [] (sym is),
    )

pub loop-object-preserved : goal.loop-object-preserved
loop-object-preserved g c =
    let i = c.loop-object.object-index in
    let xs = c.args.objects.now in
    let x = c.object-item.result in
    let front = things (take i xs) in
    let more = things_more xs i x c.loop-object-test.true c.object-item.is in
    let is = c.if-not-is_next.ensures (passed [] front) c.loop-object.invariant.keys in
    record {
      keys = subst (λ l. IsSetOf c.insert.new.self (passed [] l)) more
          (subst (IsSetOf c.insert.new.self) (sym (passed-push [] front (thing x)))
          (set_more c.loop-object.before c.insert.new.self (passed [] front) x.key c.in_ok-insert.ensures.updates c.loop-object.invariant.keys));
      order = ap (ready same_key []) (sym more) ∙ ready_more same_key front (thing x) c.loop-object.invariant.order (sym is);
    }

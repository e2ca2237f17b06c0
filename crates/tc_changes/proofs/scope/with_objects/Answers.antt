use Rattle.std.proofs.Common.{◌++◌, ◌∷◌, [], map, take, subst}
use Rattle.std.proofs.lemmas.List.{take_all}
use Rattle.tc_changes.specs.Objects.{KernelThing, things, IsSetOf}
use Rattle.tc_changes.specs.Scope.{scope_of}
use Rattle.tc_changes.specs.declared.key.Key.{Key}
use Rattle.tc_changes.proofs.Named.{set_push, objects_more}
use Rattle.tc_changes.proofs.scope.with_objects.Goals as goal

pub loop-object-preserved : goal.loop-object-preserved
loop-object-preserved g c = λ some is.
    let i = c.loop-object.object-index in
    let xs = c.args.objects.now in
    let x = c.object-item.result in
    let at : KernelThing → Key = (λ o. scope_of o.key) in
    let front = some ++ map at (things (take i xs)) in
    subst (IsSetOf c.insert.new.self) (objects_more at some xs i x c.loop-object-test.true c.object-item.is)
    (subst (λ k. IsSetOf c.insert.new.self (front ++ k ∷ [])) c.scope_of.ensures
    (set_push c.loop-object.named c.insert.new.self front c.scope_of.result c.in_ok-insert.ensures.updates (c.loop-object.invariant some is)))

pub returns : goal.returns
returns g c = λ some is.
    let at : KernelThing → Key = (λ o. scope_of o.key) in
    subst (λ l. IsSetOf c.loop-object.named (some ++ map at (things l)))
    (take_all c.loop-object.object-index c.args.objects.now c.loop-object-test.false) (c.loop-object.invariant some is)

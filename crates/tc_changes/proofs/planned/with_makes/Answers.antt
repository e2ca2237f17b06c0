use Rattle.std.proofs.Common.{◌≡◌, ◌++◌, [], map, sym, ap, ◌∙◌, append-nil, arith}
use Rattle.std.specs.Vec.Iter.{into_iter_items}
use Rattle.std.proofs.lemmas.List.{nil_from_length}
use Rattle.tc_changes.specs.Planned.{makes}
use Rattle.tc_changes.specs.Objects.{thing, things, same_key, alike, request}
use Rattle.tc_changes.specs.declared.step.Step.TheVariants.{Make, Change}
use Rattle.tc_changes.proofs.Steps.{one_step, no_step, to_make, to_change, to_keep}
use Rattle.tc_changes.proofs.planned.with_makes.Goals as goal

pub loop-object-preserved-in-Continue-1 : goal.loop-object-preserved-in-Continue-1
loop-object-preserved-in-Continue-1 g c = λ stay is.
    let x = c.in-Some.object in
    one_step stay c.loop-object.steps.items c.push.new.self.items x (into_iter_items c.next.new.self)
    (into_iter_items c.loop-object.object-iterator) _ c.in-Some.ensures.steps.0
    (c.loop-object.invariant stay is) (Change x) c.in_ok-push-in-Some-look_up.ensures.items
    (to_change stay (thing c.in-Some-look_up.old.now) (thing x) (c.in-Some-look_up.ensures stay is) (sym c.if-not-is_alike.ensures))

pub loop-object-preserved-else-not-is_alike : goal.loop-object-preserved-else-not-is_alike
loop-object-preserved-else-not-is_alike g c = λ stay is.
    let x = c.in-Some.object in
    no_step stay c.loop-object.steps.items c.loop-object.steps.items x (into_iter_items c.next.new.self)
    (into_iter_items c.loop-object.object-iterator) _ c.in-Some.ensures.steps.0
    (c.loop-object.invariant stay is)
    (to_keep stay (thing c.in-Some-look_up.old.now) (thing x) (c.in-Some-look_up.ensures stay is) (sym c.if-not-is_alike.ensures))

pub loop-object-preserved : goal.loop-object-preserved
loop-object-preserved g c = λ stay is.
    let x = c.in-Some.object in
    one_step stay c.loop-object.steps.items c.push-in-None-look_up.new.self.items x (into_iter_items c.next.new.self)
    (into_iter_items c.loop-object.object-iterator) _ c.in-Some.ensures.steps.0
    (c.loop-object.invariant stay is) (Make x) c.in_ok-push-in-None-look_up.ensures.items
    (to_make stay (thing x) (c.in-None-look_up.ensures stay is))

pub returns : goal.returns
returns g c = λ stay is.
    let none : into_iter_items c.loop-object.object-iterator
    ≡ [] = nil_from_length _ (omega (arith, c.loop-object.object-iterator.rest.ok.0, c.in-None.ensures.steps.0)) in
    sym (append-nil (map request c.loop-object.steps.items))
    ∙ ap (λ l. map request c.loop-object.steps.items ++ makes same_key alike stay (things l)) (sym none) ∙ c.loop-object.invariant stay is

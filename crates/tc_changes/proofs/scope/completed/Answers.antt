use Rattle.std.proofs.Common.{ap, ◌∙◌}
use Rattle.std.proofs.lemmas.List.{take_all}
use Rattle.tc_changes.specs.Objects.{things}
use Rattle.tc_changes.specs.Scope.{completed}
use Rattle.tc_changes.proofs.scope.completed.Goals as goal

pub returns : goal.returns
returns g c = λ some is.
    c.loop-object.invariant some is
    ∙ ap (λ l. completed some (things l) (things c.args.want.items))
    (take_all c.loop-object.object-index c.args.state.now c.loop-object-test.false)

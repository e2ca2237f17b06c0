use Rattle.std.proofs.Common.{◌&&◌, sym, ap, ◌∙◌}
use Rattle.std.specs.Cmp.{unsigned_Decides}
use Rattle.tc_meaning.specs.Tree.{attributes_of}
use Rattle.tc_meaning.specs.Equal.{same_attributes, same_each}
use Rattle.tc_actions.specs.Action.{listed}
use Rattle.tc_actions.specs.ActionAttribute.{action_attribute}
use Rattle.tc_actions.proofs.actions.action.TcActionPartialEq.eq.Goals as goal

pub returns-then-self-other : goal.returns-then-self-other
returns-then-self-other g c =
    let one = c.args.self.now in
    let other = c.args.other.now in
    let tab = (unsigned_Decides one.tab other.tab).1 c.if-self-other.true in
    c.eq.ensures
    ∙ same_each action_attribute one.attributes.items other.attributes.items
    ∙ ap (λ b. b && same_attributes (attributes_of (listed one)) (attributes_of (listed other))) (sym tab)

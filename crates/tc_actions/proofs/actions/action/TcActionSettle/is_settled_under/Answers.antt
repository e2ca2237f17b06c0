use Rattle.std.proofs.Common.{arith}
use Rattle.tc_actions.proofs.ActionLists.{action_settled, action_typed}
use Rattle.tc_actions.proofs.actions.action.TcActionSettle.is_settled_under.Goals as goal

pub returns-then-self-le-NLA_TYPE_MASK-clause-settled : goal.returns-then-self-le-NLA_TYPE_MASK-clause-settled
returns-then-self-le-NLA_TYPE_MASK-clause-settled g c =
    action_settled c.args._kind.now c.args.self.now.tab _ _ (omega arith) (rw c.deref.ensures.value at c.list_settled_own.ensures.settled)

pub returns-then-self-le-NLA_TYPE_MASK-clause-typed : goal.returns-then-self-le-NLA_TYPE_MASK-clause-typed
returns-then-self-le-NLA_TYPE_MASK-clause-typed g c =
    λ yes. action_typed c.args.self.now.tab _ c.u16_is_in_range.ensures (rw c.deref.ensures.value at (c.list_settled_own.ensures.typed yes))

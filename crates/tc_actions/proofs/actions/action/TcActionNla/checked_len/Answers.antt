use Rattle.tc_actions.proofs.ActionLists.{action_measured}
use Rattle.tc_actions.proofs.actions.action.TcActionNla.checked_len.Goals as goal

pub returns : goal.returns
returns g c = action_measured c.args.self.now.tab _ _ (rw c.deref.ensures.value at c.nested_checked_len.ensures)

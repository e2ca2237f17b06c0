use Rattle.tc_laws.proofs.OrderLaws.{action-exchanges, action-grammar}
use Rattle.tc_laws.proofs.places.order_in_an_action.Goals as goal

pub returns-clause-order : goal.returns-clause-order
returns-clause-order c = action-exchanges

pub returns-clause-grammar : goal.returns-clause-grammar
returns-clause-grammar c = action-grammar

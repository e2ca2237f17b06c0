-- Searched alone: the other tactics take long over the view of an enum.
use Rattle.std.proofs.Common.{rules}
use Rattle.tc_action_messages.proofs.attribute.TcActionMessageAttribute.row.Goals as goal

pub returns-in-RootExtWarnMsg-clause-seen : goal.returns-in-RootExtWarnMsg-clause-seen
returns-in-RootExtWarnMsg-clause-seen g c = search rules

pub returns-in-RootExtWarnMsg-clause-row : goal.returns-in-RootExtWarnMsg-clause-row
returns-in-RootExtWarnMsg-clause-row g c = search rules

-- Searched alone: the other tactics take long over the view of an enum.
use Rattle.std.proofs.Common.{rules}
use Rattle.tc_action_messages.proofs.attribute.TcActionMessageAttributeNla.put_value.Goals as goal

pub returns-clause-written : goal.returns-clause-written
returns-clause-written g c = search rules

pub returns-clause-length : goal.returns-clause-length
returns-clause-length g c = search rules

pub returns-clause-typed : goal.returns-clause-typed
returns-clause-typed g c = search rules

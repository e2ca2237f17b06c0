use Rattle.std.proofs.Common.{rules}
use Rattle.tc_actions.proofs.actions.option.TcActionOptionSettle.is_settled_under.Goals as goal

pub returns-in-Mirror-clause-settled : goal.returns-in-Mirror-clause-settled
returns-in-Mirror-clause-settled g c = rw c.in-Mirror.is c.is_settled_of_kind.ensures.settled

pub returns-in-Mirror-clause-typed : goal.returns-in-Mirror-clause-typed
returns-in-Mirror-clause-typed g c = rw c.in-Mirror.is c.is_settled_of_kind.ensures.typed

pub returns-in-TunnelKey-clause-settled : goal.returns-in-TunnelKey-clause-settled
returns-in-TunnelKey-clause-settled g c = rw c.in-TunnelKey.is c.is_settled_of_kind-in-TunnelKey.ensures.settled

pub returns-in-TunnelKey-clause-typed : goal.returns-in-TunnelKey-clause-typed
returns-in-TunnelKey-clause-typed g c = rw c.in-TunnelKey.is c.is_settled_of_kind-in-TunnelKey.ensures.typed

pub returns-in-Nat-clause-settled : goal.returns-in-Nat-clause-settled
returns-in-Nat-clause-settled g c = search rules

use Rattle.tc_actions.proofs.actions.option.TcActionOptionNla.put_value.Goals as goal

pub returns-in-Mirror-clause-written : goal.returns-in-Mirror-clause-written
returns-in-Mirror-clause-written g c = rw c.in-Mirror.is c.put_value.ensures.written

pub returns-in-Mirror-clause-typed : goal.returns-in-Mirror-clause-typed
returns-in-Mirror-clause-typed g c = rw c.in-Mirror.is c.put_value.ensures.typed

pub returns-in-Nat-clause-written : goal.returns-in-Nat-clause-written
returns-in-Nat-clause-written g c = rw c.in-Nat.is c.put_value-in-Nat.ensures.written

pub returns-in-Nat-clause-typed : goal.returns-in-Nat-clause-typed
returns-in-Nat-clause-typed g c = rw c.in-Nat.is c.put_value-in-Nat.ensures.typed

pub returns-in-TunnelKey-clause-written : goal.returns-in-TunnelKey-clause-written
returns-in-TunnelKey-clause-written g c = rw c.in-TunnelKey.is c.put_value-in-TunnelKey.ensures.written

pub returns-in-TunnelKey-clause-typed : goal.returns-in-TunnelKey-clause-typed
returns-in-TunnelKey-clause-typed g c = rw c.in-TunnelKey.is c.put_value-in-TunnelKey.ensures.typed

pub returns-in-Other-clause-written : goal.returns-in-Other-clause-written
returns-in-Other-clause-written g c = rw c.in-Other.is c.put_value-in-Other.ensures.written

pub returns-in-Other-clause-typed : goal.returns-in-Other-clause-typed
returns-in-Other-clause-typed g c = rw c.in-Other.is c.put_value-in-Other.ensures.typed

use Rattle.tc_actions.proofs.actions.option.TcActionOptionNla.checked_len.Goals as goal

pub returns-in-Nat : goal.returns-in-Nat
returns-in-Nat g c = rw c.in-Nat.is c.checked_len-in-Nat.ensures

pub returns-in-TunnelKey : goal.returns-in-TunnelKey
returns-in-TunnelKey g c = rw c.in-TunnelKey.is c.checked_len-in-TunnelKey.ensures

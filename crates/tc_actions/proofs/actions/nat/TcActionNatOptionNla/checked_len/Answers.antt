use Rattle.tc_canon.specs.Tables.Actions.{nat_options}
use Rattle.tc_actions.specs.Nat.{nat_body}
use Rattle.tc_values.proofs.Measures.{measured}
use Rattle.tc_actions.proofs.actions.nat.TcActionNatOptionNla.checked_len.Goals as goal

pub returns : goal.returns
returns g c = measured nat_body nat_options _ _ _ _ c.view.ensures c.checked_len.ensures

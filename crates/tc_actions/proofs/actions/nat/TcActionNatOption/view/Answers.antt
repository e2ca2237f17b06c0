use Rattle.tc_canon.specs.Tables.Actions.{nat_options}
use Rattle.tc_values.proofs.Rows.{shown_as}
use Rattle.tc_actions.specs.Nat.{nat_body}
use Rattle.tc_actions.proofs.OptionBodies.{is_nat_body}
use Rattle.tc_actions.proofs.actions.nat.TcActionNatOption.view.Goals as goal

pub returns : goal.returns
returns g c = shown_as nat_body is_nat_body nat_options _ _ _ c.row.ensures.seen c.row.ensures.row

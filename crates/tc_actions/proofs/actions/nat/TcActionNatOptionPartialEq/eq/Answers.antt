use Rattle.tc_canon.specs.Tables.Actions.{nat_options}
use Rattle.tc_values.proofs.SameRows.{same_shown}
use Rattle.tc_actions.proofs.OptionBodies.{same_nat_body}
use Rattle.tc_actions.proofs.actions.nat.TcActionNatOptionPartialEq.eq.Goals as goal

pub returns : goal.returns
returns g c =
    same_shown same_nat_body nat_options _ _ _ _
    c.row.ensures.seen c.row.ensures.row c.row-2.ensures.seen c.row-2.ensures.row c.same_row.ensures

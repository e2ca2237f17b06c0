use Rattle.tc_canon.specs.Tables.Actions.{action_attributes}
use Rattle.tc_values.proofs.SameRows.{same_shown}
use Rattle.tc_actions.proofs.Bodies.{same_attribute_body}
use Rattle.tc_actions.proofs.actions.attribute.TcActionAttributePartialEq.eq.Goals as goal

pub returns : goal.returns
returns g c =
    same_shown same_attribute_body action_attributes _ _ _ _
    c.row.ensures.seen c.row.ensures.row c.row-2.ensures.seen c.row-2.ensures.row c.same_row.ensures

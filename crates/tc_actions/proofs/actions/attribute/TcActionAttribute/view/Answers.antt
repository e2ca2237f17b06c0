use Rattle.tc_canon.specs.Tables.Actions.{action_attributes}
use Rattle.tc_values.proofs.Rows.{shown_as}
use Rattle.tc_actions.specs.ActionAttribute.{attribute_body}
use Rattle.tc_actions.proofs.Bodies.{is_attribute_body}
use Rattle.tc_actions.proofs.actions.attribute.TcActionAttribute.view.Goals as goal

pub returns : goal.returns
returns g c = shown_as attribute_body is_attribute_body action_attributes _ _ _ c.row.ensures.seen c.row.ensures.row

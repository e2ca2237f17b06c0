use Rattle.tc_canon.specs.Tables.Actions.{mirror_options}
use Rattle.tc_values.proofs.Rows.{shown_as}
use Rattle.tc_actions.specs.Mirror.{mirror_body}
use Rattle.tc_actions.proofs.OptionBodies.{is_mirror_body}
use Rattle.tc_actions.proofs.actions.mirror.TcActionMirrorOption.view.Goals as goal

pub returns : goal.returns
returns g c = shown_as mirror_body is_mirror_body mirror_options _ _ _ c.row.ensures.seen c.row.ensures.row

use Rattle.tc_canon.specs.Tables.Actions.{mirror_options}
use Rattle.tc_actions.specs.Mirror.{mirror_body}
use Rattle.tc_values.proofs.Measures.{measured}
use Rattle.tc_actions.proofs.actions.mirror.TcActionMirrorOptionNla.checked_len.Goals as goal

pub returns : goal.returns
returns g c = measured mirror_body mirror_options _ _ _ _ c.view.ensures c.checked_len.ensures

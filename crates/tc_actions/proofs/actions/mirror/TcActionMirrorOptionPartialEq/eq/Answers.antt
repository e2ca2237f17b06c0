use Rattle.tc_canon.specs.Tables.Actions.{mirror_options}
use Rattle.tc_values.proofs.SameRows.{same_shown}
use Rattle.tc_actions.proofs.OptionBodies.{same_mirror_body}
use Rattle.tc_actions.proofs.actions.mirror.TcActionMirrorOptionPartialEq.eq.Goals as goal

pub returns : goal.returns
returns g c =
    same_shown same_mirror_body mirror_options _ _ _ _
    c.row.ensures.seen c.row.ensures.row c.row-2.ensures.seen c.row-2.ensures.row c.same_row.ensures

use Rattle.tc_canon.specs.Tables.Options.{matchall_options}
use Rattle.tc_values.proofs.SameRows.{same_shown}
use Rattle.tc_options.proofs.Bodies.{same_action_list}
use Rattle.tc_options.proofs.filters.matchall.TcFilterMatchAllOptionPartialEq.eq.Goals as goal

pub returns : goal.returns
returns g c =
    same_shown same_action_list matchall_options _ _ _ _
    c.row.ensures.seen c.row.ensures.row c.row-2.ensures.seen c.row-2.ensures.row c.same_row.ensures

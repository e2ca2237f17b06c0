use Rattle.tc_canon.specs.Tables.Options.{matchall_options}
use Rattle.tc_values.proofs.Rows.{shown_as}
use Rattle.tc_options.specs.MatchAll.{action_list}
use Rattle.tc_options.proofs.Bodies.{is_action_list}
use Rattle.tc_options.proofs.filters.matchall.TcFilterMatchAllOption.view.Goals as goal

pub returns : goal.returns
returns g c = shown_as action_list is_action_list matchall_options _ _ _ c.row.ensures.seen c.row.ensures.row

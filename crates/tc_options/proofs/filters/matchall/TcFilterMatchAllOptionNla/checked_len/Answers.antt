use Rattle.tc_canon.specs.Tables.Options.{matchall_options}
use Rattle.tc_options.specs.MatchAll.{action_list}
use Rattle.tc_values.proofs.Measures.{measured}
use Rattle.tc_options.proofs.filters.matchall.TcFilterMatchAllOptionNla.checked_len.Goals as goal

pub returns : goal.returns
returns g c = measured action_list matchall_options _ _ _ _ c.view.ensures c.checked_len.ensures

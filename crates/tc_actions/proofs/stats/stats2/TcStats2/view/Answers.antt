use Rattle.tc_canon.specs.Tables.Statistics.{stats2}
use Rattle.tc_values.proofs.Rows.{shown_as}
use Rattle.tc_actions.specs.Stats2.{stats2_body}
use Rattle.tc_actions.proofs.StatsBodies.{is_stats2_body}
use Rattle.tc_actions.proofs.stats.stats2.TcStats2.view.Goals as goal

pub returns : goal.returns
returns g c = shown_as stats2_body is_stats2_body stats2 _ _ _ c.row.ensures.seen c.row.ensures.row

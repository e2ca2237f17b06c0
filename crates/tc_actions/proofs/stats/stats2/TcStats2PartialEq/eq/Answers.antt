use Rattle.tc_canon.specs.Tables.Statistics.{stats2}
use Rattle.tc_values.proofs.SameRows.{same_shown}
use Rattle.tc_actions.proofs.StatsBodies.{same_stats2_body}
use Rattle.tc_actions.proofs.stats.stats2.TcStats2PartialEq.eq.Goals as goal

pub returns : goal.returns
returns g c =
    same_shown same_stats2_body stats2 _ _ _ _
    c.row.ensures.seen c.row.ensures.row c.row-2.ensures.seen c.row-2.ensures.row c.same_row.ensures

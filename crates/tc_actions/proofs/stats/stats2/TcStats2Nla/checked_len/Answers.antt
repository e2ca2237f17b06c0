use Rattle.tc_canon.specs.Tables.Statistics.{stats2}
use Rattle.tc_actions.specs.Stats2.{stats2_body}
use Rattle.tc_values.proofs.Measures.{measured}
use Rattle.tc_actions.proofs.stats.stats2.TcStats2Nla.checked_len.Goals as goal

pub returns : goal.returns
returns g c = measured stats2_body stats2 _ _ _ _ c.view.ensures c.checked_len.ensures

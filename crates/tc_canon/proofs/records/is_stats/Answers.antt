use Rattle.tc_canon.proofs.Decisions.{stats-decides}
use Rattle.tc_canon.proofs.records.is_stats.Goals as goal

pub returns-then-value-eq40 : goal.returns-then-value-eq40
returns-then-value-eq40 c = stats-decides _ _ c.if-value-eq40.true c.eq.ensures

use Rattle.std.proofs.Common.{append_assoc}
use Rattle.tc_records.proofs.stats.basic.TcStatsBasicFixedRecordTC_STATS_BASIC_LEN.write.Goals as goal

pub returns-clause-written : goal.returns-clause-written
returns-clause-written c = simp (c.pad.ensures.written, c.u32.ensures.written, c.u64.ensures.written, append_assoc)

use Rattle.std.proofs.Common.{append_assoc}
use Rattle.tc_records.proofs.stats.queue.TcStatsQueueFixedRecordTC_STATS_QUEUE_LEN.write.Goals as goal

pub returns-clause-written : goal.returns-clause-written
returns-clause-written c = simp (c.u32-5.ensures.written, c.u32-4.ensures.written, c.u32-3.ensures.written, c.u32-2.ensures.written, c.u32.ensures.written, append_assoc)

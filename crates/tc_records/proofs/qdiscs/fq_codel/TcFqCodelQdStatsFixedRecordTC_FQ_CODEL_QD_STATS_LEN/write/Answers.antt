use Rattle.std.proofs.Common.{append_assoc}
use Rattle.tc_records.proofs.qdiscs.fq_codel.TcFqCodelQdStatsFixedRecordTC_FQ_CODEL_QD_STATS_LEN.write.Goals as goal

pub returns-clause-written : goal.returns-clause-written
returns-clause-written c = simp (c.u32-9.ensures.written, c.u32-8.ensures.written, c.u32-7.ensures.written, c.u32-6.ensures.written, c.u32-5.ensures.written, c.u32-4.ensures.written, c.u32-3.ensures.written, c.u32-2.ensures.written, c.u32.ensures.written, append_assoc)

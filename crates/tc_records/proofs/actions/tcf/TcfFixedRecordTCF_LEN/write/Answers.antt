use Rattle.std.proofs.Common.{append_assoc}
use Rattle.tc_records.proofs.actions.tcf.TcfFixedRecordTCF_LEN.write.Goals as goal

pub returns-clause-written : goal.returns-clause-written
returns-clause-written c = simp (c.u64-4.ensures.written, c.u64-3.ensures.written, c.u64-2.ensures.written, c.u64.ensures.written, append_assoc)

use Rattle.std.proofs.Common.{append_assoc}
use Rattle.tc_records.proofs.actions.mirror.TcMirrorFixedRecordTC_MIRROR_LEN.write.Goals as goal

pub returns-clause-written : goal.returns-clause-written
returns-clause-written c = simp (c.u32.ensures.written, c.write-2.ensures.written, c.write.ensures.written, append_assoc)

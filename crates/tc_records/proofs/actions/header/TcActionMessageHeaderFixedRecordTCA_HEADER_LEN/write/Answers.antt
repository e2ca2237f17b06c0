use Rattle.std.proofs.Common.{append_assoc}
use Rattle.tc_records.proofs.actions.header.TcActionMessageHeaderFixedRecordTCA_HEADER_LEN.write.Goals as goal

pub returns-clause-written : goal.returns-clause-written
returns-clause-written c = simp (c.pad.ensures.written, c.write.ensures.written, append_assoc)

use Rattle.std.proofs.Common.{append_assoc, rules}
use Rattle.tc_records.proofs.header.TcHeaderFixedRecordTC_HEADER_LEN.write.Goals as goal

pub returns-clause-written : goal.returns-clause-written
returns-clause-written c = rw (c.u32.ensures.written, c.write-3.ensures.written, c.write-2.ensures.written, c.i32.ensures.written, c.pad.ensures.written, c.write.ensures.written) (search (rules, append_assoc))

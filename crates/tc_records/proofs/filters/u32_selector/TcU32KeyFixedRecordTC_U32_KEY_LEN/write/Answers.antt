use Rattle.std.proofs.Common.{append_assoc, rules}
use Rattle.tc_records.proofs.filters.u32_selector.TcU32KeyFixedRecordTC_U32_KEY_LEN.write.Goals as goal

pub returns-clause-written : goal.returns-clause-written
returns-clause-written c = rw (c.i32-2.ensures.written, c.i32.ensures.written, c.u32_be-2.ensures.written, c.u32_be.ensures.written) (search (rules, append_assoc))

use Rattle.std.proofs.Common.{append_assoc, rules}
use Rattle.tc_records.proofs.actions.action.TcActionGenericFixedRecordTC_ACTION_GENERIC_LEN.write.Goals as goal

pub returns-clause-written : goal.returns-clause-written
returns-clause-written c = rw (c.i32-2.ensures.written, c.i32.ensures.written, c.write.ensures.written, c.u32-2.ensures.written, c.u32.ensures.written) (search (rules, append_assoc))

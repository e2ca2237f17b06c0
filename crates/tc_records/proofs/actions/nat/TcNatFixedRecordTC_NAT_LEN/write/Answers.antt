use Rattle.std.proofs.Common.{append_assoc, rules}
use Rattle.tc_records.proofs.actions.nat.TcNatFixedRecordTC_NAT_LEN.write.Goals as goal

pub returns-clause-written : goal.returns-clause-written
returns-clause-written c = rw (c.u32.ensures.written, c.ipv4_addr-3.ensures.written, c.ipv4_addr-2.ensures.written, c.ipv4_addr.ensures.written, c.write.ensures.written) (search (rules, append_assoc))

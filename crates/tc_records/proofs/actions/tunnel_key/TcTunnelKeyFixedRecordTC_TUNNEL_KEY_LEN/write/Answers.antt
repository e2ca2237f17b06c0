use Rattle.std.proofs.Common.{append_assoc, rules}
use Rattle.tc_records.proofs.actions.tunnel_key.TcTunnelKeyFixedRecordTC_TUNNEL_KEY_LEN.write.Goals as goal

pub returns-clause-written : goal.returns-clause-written
returns-clause-written c = rw (c.i32.ensures.written, c.write.ensures.written) (search (rules, append_assoc))

use Rattle.std.proofs.Common.{◌∙◌}
use Rattle.tc_texts.proofs.Ipv6.{dotted}
use Rattle.tc_texts.proofs.address.read_ipv4.Goals as goal

pub returns-in-Err : goal.returns-in-Err
returns-in-Err c = λ o h e. c.in-Err.ensures (record { octets = o }) (dotted c.as_bytes.result.now o h (c.as_bytes.ensures.value ∙ e))

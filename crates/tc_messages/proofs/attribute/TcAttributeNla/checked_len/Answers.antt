use Rattle.tc_values.proofs.Measures.{same_measure}
use Rattle.tc_messages.proofs.attribute.TcAttributeNla.checked_len.Goals as goal

pub returns : goal.returns
returns g c = same_measure c.row.ensures.written.fits c.row.ensures.written.bytes c.checked_len.result c.checked_len.ensures

use Rattle.tc_canon.specs.Tables.Options.{fq_codel_options}
use Rattle.tc_values.specs.Bodies.{nothing}
use Rattle.tc_values.proofs.Measures.{measured}
use Rattle.tc_options.proofs.qdiscs.fq_codel.TcQdiscFqCodelOptionNla.checked_len.Goals as goal

pub returns : goal.returns
returns g c = measured nothing fq_codel_options _ _ _ _ c.view.ensures c.checked_len.ensures

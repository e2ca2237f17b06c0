use Rattle.tc_canon.specs.Tables.Options.{fq_codel_options}
use Rattle.tc_values.specs.Bodies.{nothing}
use Rattle.tc_values.proofs.Bodies.{is_nothing}
use Rattle.tc_values.proofs.Rows.{shown_as}
use Rattle.tc_options.proofs.qdiscs.fq_codel.TcQdiscFqCodelOption.view.Goals as goal

pub returns : goal.returns
returns g c = shown_as nothing is_nothing fq_codel_options _ _ _ c.row.ensures.seen c.row.ensures.row

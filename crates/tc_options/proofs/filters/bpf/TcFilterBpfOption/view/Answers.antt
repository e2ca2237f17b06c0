use Rattle.tc_canon.specs.Tables.Options.{bpf_options}
use Rattle.tc_values.specs.Bodies.{nothing}
use Rattle.tc_values.proofs.Bodies.{is_nothing}
use Rattle.tc_values.proofs.Rows.{shown_as}
use Rattle.tc_options.proofs.filters.bpf.TcFilterBpfOption.view.Goals as goal

pub returns : goal.returns
returns g c = shown_as nothing is_nothing bpf_options _ _ _ c.row.ensures.seen c.row.ensures.row

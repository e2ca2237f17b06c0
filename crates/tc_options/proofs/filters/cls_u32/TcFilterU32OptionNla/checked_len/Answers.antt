use Rattle.tc_canon.specs.Tables.Options.{u32_options}
use Rattle.tc_options.specs.U32.{u32_body}
use Rattle.tc_values.proofs.Measures.{measured}
use Rattle.tc_options.proofs.filters.cls_u32.TcFilterU32OptionNla.checked_len.Goals as goal

pub returns : goal.returns
returns g c = measured u32_body u32_options _ _ _ _ c.view.ensures c.checked_len.ensures

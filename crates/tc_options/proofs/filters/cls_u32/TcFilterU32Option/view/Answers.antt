use Rattle.tc_canon.specs.Tables.Options.{u32_options}
use Rattle.tc_values.proofs.Rows.{shown_as}
use Rattle.tc_options.specs.U32.{u32_body}
use Rattle.tc_options.proofs.Bodies.{is_u32_body}
use Rattle.tc_options.proofs.filters.cls_u32.TcFilterU32Option.view.Goals as goal

pub returns : goal.returns
returns g c = shown_as u32_body is_u32_body u32_options _ _ _ c.row.ensures.seen c.row.ensures.row

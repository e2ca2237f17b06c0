use Rattle.tc_canon.specs.Tables.Options.{u32_options}
use Rattle.tc_values.proofs.SameRows.{same_shown}
use Rattle.tc_options.proofs.Bodies.{same_u32_body}
use Rattle.tc_options.proofs.filters.cls_u32.TcFilterU32OptionPartialEq.eq.Goals as goal

pub returns : goal.returns
returns g c =
    same_shown same_u32_body u32_options _ _ _ _
    c.row.ensures.seen c.row.ensures.row c.row-2.ensures.seen c.row-2.ensures.row c.same_row.ensures

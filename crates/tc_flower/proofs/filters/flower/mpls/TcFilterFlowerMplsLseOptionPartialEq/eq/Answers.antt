use Rattle.tc_canon.specs.Tables.Flower.{lse_options}
use Rattle.tc_values.proofs.SameRows.{same_shown, same_nothing}
use Rattle.tc_flower.proofs.filters.flower.mpls.TcFilterFlowerMplsLseOptionPartialEq.eq.Goals as goal

pub returns : goal.returns
returns g c =
    same_shown same_nothing lse_options _ _ _ _
    c.row.ensures.seen c.row.ensures.row c.row-2.ensures.seen c.row-2.ensures.row c.same_row.ensures

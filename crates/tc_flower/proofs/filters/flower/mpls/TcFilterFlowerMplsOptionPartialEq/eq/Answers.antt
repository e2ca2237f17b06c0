use Rattle.tc_canon.specs.Tables.Flower.{mpls_options}
use Rattle.tc_values.proofs.SameRows.{same_shown}
use Rattle.tc_flower.proofs.MplsBodies.{same_lse_lists}
use Rattle.tc_flower.proofs.filters.flower.mpls.TcFilterFlowerMplsOptionPartialEq.eq.Goals as goal

pub returns : goal.returns
returns g c =
    same_shown same_lse_lists mpls_options _ _ _ _
    c.row.ensures.seen c.row.ensures.row c.row-2.ensures.seen c.row-2.ensures.row c.same_row.ensures

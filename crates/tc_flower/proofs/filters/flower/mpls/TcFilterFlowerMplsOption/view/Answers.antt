use Rattle.tc_canon.specs.Tables.Flower.{mpls_options}
use Rattle.tc_values.proofs.Rows.{shown_as}
use Rattle.tc_flower.specs.Mpls.{lse_lists}
use Rattle.tc_flower.proofs.MplsBodies.{are_lse_lists}
use Rattle.tc_flower.proofs.filters.flower.mpls.TcFilterFlowerMplsOption.view.Goals as goal

pub returns : goal.returns
returns g c = shown_as lse_lists are_lse_lists mpls_options _ _ _ c.row.ensures.seen c.row.ensures.row

use Rattle.tc_canon.specs.Tables.Flower.{mpls_options}
use Rattle.tc_flower.specs.Mpls.{lse_lists}
use Rattle.tc_values.proofs.Measures.{measured}
use Rattle.tc_flower.proofs.filters.flower.mpls.TcFilterFlowerMplsOptionNla.checked_len.Goals as goal

pub returns : goal.returns
returns g c = measured lse_lists mpls_options _ _ _ _ c.view.ensures c.checked_len.ensures

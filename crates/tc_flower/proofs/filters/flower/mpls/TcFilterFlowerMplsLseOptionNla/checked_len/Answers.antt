use Rattle.tc_canon.specs.Tables.Flower.{lse_options}
use Rattle.tc_values.specs.Bodies.{nothing}
use Rattle.tc_values.proofs.Measures.{measured}
use Rattle.tc_flower.proofs.filters.flower.mpls.TcFilterFlowerMplsLseOptionNla.checked_len.Goals as goal

pub returns : goal.returns
returns g c = measured nothing lse_options _ _ _ _ c.view.ensures c.checked_len.ensures

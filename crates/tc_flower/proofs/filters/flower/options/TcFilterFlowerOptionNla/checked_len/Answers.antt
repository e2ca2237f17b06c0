use Rattle.tc_canon.specs.Tables.Flower.{flower_options}
use Rattle.tc_flower.specs.Flower.{flower_lists}
use Rattle.tc_values.proofs.Measures.{measured}
use Rattle.tc_flower.proofs.filters.flower.options.TcFilterFlowerOptionNla.checked_len.Goals as goal

pub returns : goal.returns
returns g c = measured flower_lists flower_options _ _ _ _ c.view.ensures c.checked_len.ensures

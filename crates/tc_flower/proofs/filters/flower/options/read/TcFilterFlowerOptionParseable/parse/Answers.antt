use Rattle.tc_flower.specs.Reading.{flower_read}
use Rattle.tc_flower.proofs.filters.flower.options.read.TcFilterFlowerOptionParseable.parse.Goals as goal

pub returns : goal.returns
unfolding flower_read
returns g c = c.read.ensures

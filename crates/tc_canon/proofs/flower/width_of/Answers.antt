use Rattle.tc_canon.proofs.FlowerWidths.{found-width}
use Rattle.tc_canon.proofs.flower.width_of.Goals as goal

pub returns : goal.returns
returns c = found-width c.args.kind _ c.find_width.ensures

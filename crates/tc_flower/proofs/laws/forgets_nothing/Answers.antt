use Rattle.tc_flower.proofs.Same.{flower_forgets_nothing}
use Rattle.tc_flower.proofs.laws.forgets_nothing.Goals as goal

pub returns-clause-flower : goal.returns-clause-flower
returns-clause-flower g c = flower_forgets_nothing

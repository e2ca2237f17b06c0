use Rattle.tc_meaning.specs.Equal.{attribute_decides}
use Rattle.tc_flower.specs.Mpls.{lse_option, mpls_option}
use Rattle.tc_flower.specs.Flower.{flower_option}
use Rattle.tc_flower.proofs.laws.equal.Goals as goal

pub returns-clause-mpls : goal.returns-clause-mpls
returns-clause-mpls g c = λ a b. attribute_decides (mpls_option a) (mpls_option b)

pub returns-clause-entry : goal.returns-clause-entry
returns-clause-entry g c = λ a b. attribute_decides (lse_option a) (lse_option b)

pub returns-clause-flower : goal.returns-clause-flower
returns-clause-flower g c = λ a b. attribute_decides (flower_option a) (flower_option b)

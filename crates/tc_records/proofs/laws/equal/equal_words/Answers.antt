use Rattle.tc_meaning.specs.Equal.{selector_decides}
use Rattle.tc_records.specs.Selector.{selector_of}
use Rattle.tc_records.proofs.laws.equal.equal_words.Goals as goal

pub returns-clause-selected : goal.returns-clause-selected
returns-clause-selected g c = λ a b. selector_decides (selector_of a) (selector_of b)

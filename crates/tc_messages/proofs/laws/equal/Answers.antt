use Rattle.tc_meaning.specs.Equal.{attribute_decides, message_decides}
use Rattle.tc_messages.specs.Attribute.{tc_attribute}
use Rattle.tc_messages.specs.Message.{tc_message}
use Rattle.tc_messages.proofs.laws.equal.Goals as goal

pub returns-clause-attribute : goal.returns-clause-attribute
returns-clause-attribute g c = λ a b. attribute_decides (tc_attribute a) (tc_attribute b)

pub returns-clause-message : goal.returns-clause-message
returns-clause-message g c = λ a b. message_decides (tc_message a) (tc_message b)

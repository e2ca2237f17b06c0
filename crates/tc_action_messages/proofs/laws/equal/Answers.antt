use Rattle.tc_meaning.specs.Equal.{attribute_decides, message_decides}
use Rattle.tc_action_messages.specs.ActionMessageAttribute.{action_message_attribute}
use Rattle.tc_action_messages.specs.ActionMessage.{action_message}
use Rattle.tc_action_messages.proofs.laws.equal.Goals as goal

pub returns-clause-attribute : goal.returns-clause-attribute
returns-clause-attribute g c = λ a b. attribute_decides (action_message_attribute a) (action_message_attribute b)

pub returns-clause-message : goal.returns-clause-message
returns-clause-message g c = λ a b. message_decides (action_message a) (action_message b)

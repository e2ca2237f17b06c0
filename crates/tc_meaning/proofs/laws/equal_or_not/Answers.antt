use Rattle.tc_meaning.specs.Equal.{message_decides, attribute_decides, content_decides}
use Rattle.tc_meaning.proofs.laws.equal_or_not.Goals as goal

pub returns-clause-messages : goal.returns-clause-messages
returns-clause-messages c = message_decides

pub returns-clause-attributes : goal.returns-clause-attributes
returns-clause-attributes c = attribute_decides

pub returns-clause-contents : goal.returns-clause-contents
returns-clause-contents c = content_decides

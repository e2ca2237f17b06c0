use Rattle.tc_meaning.specs.Whole.{action_words}
use Rattle.tc_meaning.proofs.MessageTheorems.{one_outcome}
use Rattle.tc_action_messages.proofs.laws.one_outcome.Goals as goal

pub returns : goal.returns
returns c = one_outcome action_words c.args.bytes.now c.action_message.ensures

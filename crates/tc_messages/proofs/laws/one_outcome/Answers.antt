use Rattle.tc_meaning.specs.Whole.{tc_words}
use Rattle.tc_meaning.proofs.MessageTheorems.{one_outcome}
use Rattle.tc_messages.proofs.laws.one_outcome.Goals as goal

pub returns : goal.returns
returns c = one_outcome tc_words c.args.bytes.now c.tc_message.ensures

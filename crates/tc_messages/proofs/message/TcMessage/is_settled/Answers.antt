use Rattle.tc_messages.specs.Message.{tc_message}
use Rattle.tc_messages.proofs.message.TcMessage.is_settled.Goals as goal

pub returns-clause-canonical : goal.returns-clause-canonical
returns-clause-canonical g c = λ yes fits.
    let parts = c.has_settled_parts.ensures in
    c.tc_message.ensures.settled (tc_message c.args.self.now) (parts.typed yes) fits (parts.settled.0 yes)

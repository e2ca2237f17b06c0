-- Searched alone: octets in another order are refused sooner.
use Rattle.std.proofs.Common.{rules}
use Rattle.tc_action_messages.proofs.flags.TcActionMessageFlagsWithSelector.to_bytes.Goals as goal

pub returns : goal.returns
returns c = search rules

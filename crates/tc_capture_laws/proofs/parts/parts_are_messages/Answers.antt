use Rattle.tc_capture_laws.proofs.PartJoins.{parts-messages}
use Rattle.tc_capture_laws.proofs.parts.parts_are_messages.Goals as goal

pub returns : goal.returns
returns c = parts-messages c.args.bytes.now

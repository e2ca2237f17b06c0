use Rattle.tc_capture_laws.proofs.Joins.{pieces_in-last}
use Rattle.tc_capture_laws.proofs.parts.rest_is_last.Goals as goal

pub returns : goal.returns
returns c s = pieces_in-last c.args.most s c.args.file.now

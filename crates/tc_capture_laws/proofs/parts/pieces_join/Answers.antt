use Rattle.tc_capture_laws.proofs.Joins.{pieces_in-joins}
use Rattle.tc_capture_laws.proofs.parts.pieces_join.Goals as goal

pub returns : goal.returns
returns c s = pieces_in-joins c.args.most s c.args.file.now

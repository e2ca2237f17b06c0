use Rattle.tc_capture_laws.proofs.Joins.{pieces_in-have_bytes}
use Rattle.tc_capture_laws.proofs.parts.pieces_have_bytes.Goals as goal

pub returns : goal.returns
returns c s = pieces_in-have_bytes c.args.most s c.args.file.now

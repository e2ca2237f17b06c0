use Rattle.tc_capture_laws.proofs.Joins.{pieces_in-lengths}
use Rattle.tc_capture_laws.proofs.parts.long_pieces_are_skipped.Goals as goal

pub returns : goal.returns
returns c s = pieces_in-lengths c.args.most s c.args.file.now

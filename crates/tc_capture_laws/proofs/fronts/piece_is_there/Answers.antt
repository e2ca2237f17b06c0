use Rattle.tc_capture_laws.proofs.FrontPieces.{front-is}
use Rattle.tc_capture_laws.proofs.fronts.piece_is_there.Goals as goal

pub returns : goal.returns
returns c s next is = front-is s c.args.bytes.now next is

use Rattle.tc_capture_laws.proofs.MoreBytes.{next_piece-stays}
use Rattle.tc_capture_laws.proofs.fronts.more_bytes_change_nothing.Goals as goal

pub returns : goal.returns
returns c s more = next_piece-stays c.args.bytes.now more s

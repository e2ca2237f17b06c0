use Rattle.tc_capture_laws.proofs.Faults.{next_piece-Short}
use Rattle.tc_capture_laws.proofs.fronts.short_counts_bytes.Goals as goal

pub returns : goal.returns
returns c s needed left is = next_piece-Short c.args.bytes.now s needed left is

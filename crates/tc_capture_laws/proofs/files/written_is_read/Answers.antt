use Rattle.std.proofs.Common.{arith}
use Rattle.tc_capture_laws.proofs.PcapReads.{written-read}
use Rattle.tc_capture_laws.proofs.files.written_is_read.Goals as goal

pub returns : goal.returns
returns c longest packets room least all aligned = written-read longest c.args.most packets room (omega arith) least all aligned

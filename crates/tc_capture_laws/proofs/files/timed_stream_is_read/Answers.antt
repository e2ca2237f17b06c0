use Rattle.std.proofs.Common.{arith}
use Rattle.tc_capture_laws.proofs.StreamReads.{timed_file-read}
use Rattle.tc_capture_laws.proofs.files.timed_stream_is_read.Goals as goal

pub returns : goal.returns
returns c packets least some all = timed_file-read c.args.most packets (omega arith) least some all

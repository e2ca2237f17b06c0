use Rattle.tc_capture_laws.proofs.StreamReads.{stream-read}
use Rattle.tc_capture_laws.proofs.files.stream_is_read.Goals as goal

pub returns : goal.returns
returns c messages small some are others short = stream-read c.args.most messages small some are others short

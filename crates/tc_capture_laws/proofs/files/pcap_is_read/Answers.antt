use Rattle.std.proofs.Common.{arith}
use Rattle.tc_capture_laws.proofs.PcapReads.{pcap-read}
use Rattle.tc_capture_laws.proofs.files.pcap_is_read.Goals as goal

pub returns : goal.returns
returns c order longest packets room least all = pcap-read order longest c.args.most packets room (omega arith) least all

use Rattle.std.proofs.Common.{sym, ◌∙◌}
use Rattle.tc_capture_laws.proofs.Agrees.{stream-holds, pcap-holds, pcapng-holds}
use Rattle.tc_capture_laws.proofs.files.formats_agree.Goals as goal

pub returns-clause-pcap : goal.returns-clause-pcap
returns-clause-pcap c order longest packets room small all some others =
    pcap-holds order longest c.args.most packets room small all some others
    ∙ sym (stream-holds order longest c.args.most packets room small all some others)

pub returns-clause-pcapng : goal.returns-clause-pcapng
returns-clause-pcapng c order longest packets room small all some others =
    pcapng-holds order longest c.args.most packets room small all some others
    ∙ sym (stream-holds order longest c.args.most packets room small all some others)

use Rattle.nla_frames.specs.Buffer.{frame_of}
use Rattle.nla_frames.proofs.Outcomes.{IfOk-Returns, IfRefused-Returns}
use Rattle.tc_options.specs.Options.{listed, read_options, ReadsOptions, OptionsFault}
use Rattle.tc_options.proofs.KindLists.{options_found, options_fault}
use Rattle.tc_options.proofs.options.VecTcOption.parse_with_param.Goals as goal

pub returns-clause-found : goal.returns-clause-found
returns-clause-found g c =
    let f = frame_of c.args.buf.now in
    let are_bytes = rw c.value.ensures.bytes at c.bytes_are_in_range.ensures in
    IfOk-Returns listed c.read_by_kind.result (read_options c.args.kind.now f) c.read_by_kind.ensures
    (ReadsOptions c.args.kind.now f) (options_found c.args.kind.now f are_bytes)

pub returns-clause-refused : goal.returns-clause-refused
returns-clause-refused g c =
    let f = frame_of c.args.buf.now in
    let are_bytes = rw c.value.ensures.bytes at c.bytes_are_in_range.ensures in
    IfRefused-Returns listed c.read_by_kind.result (read_options c.args.kind.now f) c.read_by_kind.ensures
    (OptionsFault c.args.kind.now f) (options_fault c.args.kind.now f are_bytes)

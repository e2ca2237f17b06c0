use Rattle.std.proofs.Common.{map}
use Rattle.nla_frames.specs.Reading.{keep, read_list}
use Rattle.nla_frames.specs.ListGrammar.{ListReads, IsListFault}
use Rattle.nla_frames.proofs.Bytes.{IsBytes-slice}
use Rattle.nla_frames.proofs.Outcomes.{IfOk-Returns, IfRefused-Returns}
use Rattle.nla_frames.proofs.ListGrammarLaws.{ListReads-read_list, IsListFault-read_list}
use Rattle.nla_frames.proofs.lists.read.parse_list_by.Goals as goal

pub returns-clause-found : goal.returns-clause-found
returns-clause-found g c =
    let reads = g.T.FrameMeaning.codec.read in
    let are_bytes = IsBytes-slice c.args.bytes.now c.type_inv.bytes in
    IfOk-Returns (λ v. map g.T.FrameMeaning.see v.items) c.read_all.result (read_list reads keep (g.R.FrameReader.kind c.args.reader.now) c.args.bytes.now) c.read_all.ensures
    (ListReads reads keep (g.R.FrameReader.kind c.args.reader.now) c.args.bytes.now) (λ xs. ListReads-read_list reads keep (g.R.FrameReader.kind c.args.reader.now) c.args.bytes.now xs are_bytes)

pub returns-clause-refused : goal.returns-clause-refused
returns-clause-refused g c =
    let reads = g.T.FrameMeaning.codec.read in
    let are_bytes = IsBytes-slice c.args.bytes.now c.type_inv.bytes in
    IfRefused-Returns (λ v. map g.T.FrameMeaning.see v.items) c.read_all.result
    (read_list reads keep (g.R.FrameReader.kind c.args.reader.now) c.args.bytes.now) c.read_all.ensures
    (IsListFault reads keep (g.R.FrameReader.kind c.args.reader.now) c.args.bytes.now) (λ e. IsListFault-read_list reads keep (g.R.FrameReader.kind c.args.reader.now) c.args.bytes.now e are_bytes)

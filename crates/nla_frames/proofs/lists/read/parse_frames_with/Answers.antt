use Rattle.std.proofs.Common.{map}
use Rattle.nla_frames.specs.Buffer.{frame_of}
use Rattle.nla_frames.specs.ListGrammar.{ReadEach, IsFirstRefusal}
use Rattle.nla_frames.specs.Reading.{read_each, whole, keep}
use Rattle.nla_frames.proofs.Outcomes.{IfOk-Returns, IfRefused-Returns}
use Rattle.nla_frames.proofs.CutLists.{each_read, first_of_frames}
use Rattle.nla_frames.proofs.lists.read.parse_frames_with.Goals as goal

pub returns-clause-found : goal.returns-clause-found
returns-clause-found g c =
    let fs = map frame_of c.args.frames.now in
    let kind = c.args.kind.now in
    IfOk-Returns (λ v. map g.T.FrameMeaning.see v.items) c.read_frames.result (read_each g.T.FrameMeaning.codec.read keep kind (whole fs)) c.read_frames.ensures
    (ReadEach g.T.FrameMeaning.codec.read keep kind fs) (each_read g.T.FrameMeaning.codec.read kind fs)

pub returns-clause-refused : goal.returns-clause-refused
returns-clause-refused g c =
    let fs = map frame_of c.args.frames.now in
    let kind = c.args.kind.now in
    IfRefused-Returns (λ v. map g.T.FrameMeaning.see v.items) c.read_frames.result
    (read_each g.T.FrameMeaning.codec.read keep kind (whole fs)) c.read_frames.ensures
    (IsFirstRefusal g.T.FrameMeaning.codec.read kind fs) (first_of_frames g.T.FrameMeaning.codec.read kind fs)

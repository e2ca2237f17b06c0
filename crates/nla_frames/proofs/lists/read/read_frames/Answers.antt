use Rattle.std.proofs.lemmas.Result.{err_from_is_err_and}
use Rattle.std.proofs.lemmas.List.{map_push}
use Rattle.nla_frames.specs.Buffer.{frame_of}
use Rattle.nla_frames.specs.Reading.{keep}
use Rattle.nla_frames.proofs.ReadingSteps.{goes_on, refuses, is_done, frames_more, frames_all}
use Rattle.nla_frames.proofs.lists.read.read_frames.Goals as goal

pub returns-in_err-item : goal.returns-in_err-item
returns-in_err-item g c =
    let p = err_from_is_err_and c.from_residual-in_err-item.result c.from_residual-in_err-item.ensures.1 in
    let next = frames_more frame_of c.args.frames.now c.loop-frame.frame-index c.frame-item.result c.loop-frame-test.true c.frame-item.is in
    rw (p.1, p.2) (refuses g.T.FrameMeaning.codec.read keep c.args.kind.now _ _ _ c.loop-frame.invariant _ _ _ next c.in_err-item.ensures)

pub loop-frame-preserved : goal.loop-frame-preserved
loop-frame-preserved g c =
    let next = frames_more frame_of c.args.frames.now c.loop-frame.frame-index c.frame-item.result c.loop-frame-test.true c.frame-item.is in
    rw (c.push_reserved.ensures.items, c.in_ok-reserve.ensures.items, map_push)
    (goes_on g.T.FrameMeaning.codec.read keep c.args.kind.now _ _ _ c.loop-frame.invariant _ _ _ next c.in_ok-item.ensures)

pub returns : goal.returns
returns g c = is_done g.T.FrameMeaning.codec.read keep c.args.kind.now _ _ _ c.loop-frame.invariant
    (frames_all frame_of c.args.frames.now c.loop-frame.frame-index c.loop-frame-test.false)

use Rattle.std.proofs.Common.{ap, ◌∙◌, map}
use Rattle.std.proofs.lemmas.Result.{err_from_is_err_and}
use Rattle.std.proofs.lemmas.List.{map_push}
use Rattle.nla_frames.specs.Iterator.{items_left}
use Rattle.nla_frames.specs.Reading.{keep}
use Rattle.nla_frames.proofs.ReadingSteps.{starts, goes_on, breaks, refuses, is_done}
use Rattle.nla_frames.proofs.lists.read.read_all.Goals as goal

pub loop-frame-init : goal.loop-frame-init
loop-frame-init g c =
    starts g.T.FrameMeaning.codec.read keep (g.R.FrameReader.kind c.args.reader.now) c.args.bytes.now _ _ (ap (map g.T.FrameMeaning.see) c.in_ok-list.ensures.items)
    (ap items_left c.into_iter-frame-iterator.ensures.into_iter_gives ∙ c.new-frame-items.ensures)

pub returns-in_err-frame : goal.returns-in_err-frame
returns-in_err-frame g c =
    let p = err_from_is_err_and c.from_residual-in_err-frame.result c.from_residual-in_err-frame.ensures.1 in
    rw (p.1, p.2) (breaks g.T.FrameMeaning.codec.read keep (g.R.FrameReader.kind c.args.reader.now) _ _ _ c.loop-frame.invariant _ _ (rw c.in_err-frame.was at c.in-Some.ensures.steps))

pub returns-in_err-item : goal.returns-in_err-item
returns-in_err-item g c =
    let p = err_from_is_err_and c.from_residual-in_err-item.result c.from_residual-in_err-item.ensures.1 in
    rw (p.1, p.2) (refuses g.T.FrameMeaning.codec.read keep (g.R.FrameReader.kind c.args.reader.now) _ _ _ c.loop-frame.invariant _ _ _
    (rw c.in_ok-frame.was at c.in-Some.ensures.steps) c.in_err-item.ensures)

pub loop-frame-preserved : goal.loop-frame-preserved
loop-frame-preserved g c =
    rw (c.push_reserved.ensures.items, c.in_ok-reserve.ensures.items, map_push)
    (goes_on g.T.FrameMeaning.codec.read keep (g.R.FrameReader.kind c.args.reader.now) _ _ _ c.loop-frame.invariant _ _ _
    (rw c.in_ok-frame.was at c.in-Some.ensures.steps) c.in_ok-item.ensures)

pub returns : goal.returns
returns g c = is_done g.T.FrameMeaning.codec.read keep (g.R.FrameReader.kind c.args.reader.now) _ _ _ c.loop-frame.invariant c.in-None.ensures.steps.0

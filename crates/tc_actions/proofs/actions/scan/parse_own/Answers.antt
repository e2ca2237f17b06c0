use Rattle.std.proofs.lemmas.Result.{err_from_is_err_and}
use Rattle.tc_actions.proofs.Scanning.{scan_fault, own_missing, own_one, own_several}
use Rattle.tc_actions.proofs.actions.scan.parse_own.Goals as goal

pub returns-in_err-frames : goal.returns-in_err-frames
returns-in_err-frames g c =
    let p = err_from_is_err_and c.from_residual.result c.from_residual.ensures.1 in
    rw (p.1, p.2) (scan_fault g.T.FrameMeaning.codec.read c.args.bytes.now _ c.in_err-frames.ensures)

pub returns-in-Missing : goal.returns-in-Missing
returns-in-Missing g c = own_missing g.T.FrameMeaning.codec.read c.args.bytes.now _ _ c.in_ok-frames.ensures c.in-Missing.is

pub returns-in-One : goal.returns-in-One
returns-in-One g c =
    rw (own_one g.T.FrameMeaning.codec.read c.args.bytes.now _ _ c.in_ok-frames.ensures c.in-One.kind c.in-One.is)
    (rw c.deref.ensures.value at c.parse_frames_with.ensures.exact)

pub returns : goal.returns
returns g c = own_several g.T.FrameMeaning.codec.read c.args.bytes.now _ _ c.in_ok-frames.ensures c.in-Several.is

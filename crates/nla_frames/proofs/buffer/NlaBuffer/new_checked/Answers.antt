use Rattle.std.proofs.Common.{sym}
use Rattle.std.proofs.lemmas.Result.{err_from_is_err_and}
use Rattle.nla_frames.proofs.Bytes.{IsBytes-slice}
use Rattle.nla_frames.proofs.FirstFrames.{first_found, first_refused}
use Rattle.nla_frames.proofs.buffer.NlaBuffer.new_checked.Goals as goal

pub returns-in_err-frame-clause-refused : goal.returns-in_err-frame-clause-refused
returns-in_err-frame-clause-refused c =
    let p = err_from_is_err_and c.from_residual.result c.from_residual.ensures.1 in
    rw (p.1, p.2) (first_refused c.args.bytes.now _ (sym c.in_err-frame.ensures))

pub returns-clause-found : goal.returns-clause-found
returns-clause-found c = first_found c.args.bytes.now _ _ (IsBytes-slice c.args.bytes.now c.type_inv.bytes) (sym c.in_ok-frame.ensures)

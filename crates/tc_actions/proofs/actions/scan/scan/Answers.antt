use Rattle.std.proofs.Common.{ap, sym, ◌∙◌}
use Rattle.std.proofs.lemmas.Result.{err_from_is_err_and}
use Rattle.nla_frames.specs.Iterator.{items_left}
use Rattle.tc_actions.proofs.Scanning.{scan_starts, scan_breaks, scan_refuses, scan_next, scan_done}
use Rattle.tc_actions.proofs.actions.scan.scan.Goals as goal

pub loop-frame-init : goal.loop-frame-init
loop-frame-init g c =
    scan_starts c.args.bytes.now _ _ c.in_ok-frames.ensures.items (ap items_left c.into_iter-frame-iterator.ensures.into_iter_gives ∙ c.new-frame-items.ensures)

pub returns-in_err-frame : goal.returns-in_err-frame
returns-in_err-frame g c =
    let p = err_from_is_err_and c.from_residual-in_err-frame.result c.from_residual-in_err-frame.ensures.1 in
    rw (p.1, p.2) (scan_breaks c.args.bytes.now _ _ _ c.loop-frame.invariant _ _ (rw c.in_err-frame.was at c.in-Some.ensures.steps))

pub returns-in_err-kind_set_by_frame : goal.returns-in_err-kind_set_by_frame
returns-in_err-kind_set_by_frame g c =
    let p = err_from_is_err_and c.from_residual-in_err-kind_set_by_frame.result c.from_residual-in_err-kind_set_by_frame.ensures.1 in
    rw (p.1, p.2) (scan_refuses c.args.bytes.now _ _ _ c.loop-frame.invariant _ _ _
    (rw c.in_ok-frame.was at c.in-Some.ensures.steps) c.in_err-kind_set_by_frame.ensures)

pub loop-frame-preserved : goal.loop-frame-preserved
loop-frame-preserved g c =
    scan_next c.args.bytes.now _ _ _ c.loop-frame.invariant c.in_ok-frame.frame _ c.in_ok-kind_set_by_frame.field-0 _ _
    (rw c.in_ok-frame.was at c.in-Some.ensures.steps)
    (sym c.in_ok-kind_set_by_frame.ensures) c.and-only.ensures c.in_ok-push.ensures.items

pub returns : goal.returns
returns g c = scan_done c.args.bytes.now _ _ _ c.loop-frame.invariant c.in-None.ensures.steps.0

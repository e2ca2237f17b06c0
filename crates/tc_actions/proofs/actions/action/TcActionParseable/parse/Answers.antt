use Rattle.std.proofs.Common.{[], rules}
use Rattle.std.proofs.lemmas.Result.{err_from_is_err_and}
use Rattle.nla_frames.specs.Buffer.{frame_of}
use Rattle.tc_actions.proofs.ActionLists.{action_refused, keeps_order}
use Rattle.tc_actions.proofs.actions.action.TcActionParseable.parse.Goals as goal

pub returns-in_err-attributes-clause-refused : goal.returns-in_err-attributes-clause-refused
returns-in_err-attributes-clause-refused g c =
    let p = err_from_is_err_and c.from_residual.result c.from_residual.ensures.1 in
    rw (p.1, p.2) (rw c.value.ensures.bytes at c.in_err-attributes.ensures.refused)

pub returns-in_err-attributes-clause-exact : goal.returns-in_err-attributes-clause-exact
returns-in_err-attributes-clause-exact g c =
    let p = err_from_is_err_and c.from_residual.result c.from_residual.ensures.1 in
    rw (p.1, p.2) (action_refused _ (frame_of c.args.buf.now) (rw c.value.ensures.bytes at c.in_err-attributes.ensures.exact))

pub returns-clause-order : goal.returns-clause-order
returns-clause-order g c =
    keeps_order (frame_of c.args.buf.now) _ (c.order_in_an_action.ensures.order [] (frame_of c.args.buf.now).word)
    (rw c.value.ensures.bytes at c.in_ok-attributes.ensures.exact)

pub returns-clause-tab : goal.returns-clause-tab
returns-clause-tab g c = search rules

pub returns-clause-exact : goal.returns-clause-exact
returns-clause-exact g c = search rules

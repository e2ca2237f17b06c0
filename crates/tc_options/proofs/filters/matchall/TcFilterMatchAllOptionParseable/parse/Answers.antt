use Rattle.std.proofs.Common.{refl, sym, ◌∙◌}
use Rattle.std.proofs.lemmas.Result.{err_from_is_err_and}
use Rattle.nla_frames.specs.Buffer.{frame_of}
use Rattle.tc_canon.specs.Tables.Options.{matchall_options}
use Rattle.tc_options.proofs.ActionLists.{actions_read, actions_refused}
use Rattle.tc_options.proofs.filters.matchall.TcFilterMatchAllOptionParseable.parse.Goals as goal

pub returns-in_ok-parse_list-in-2 : goal.returns-in_ok-parse_list-in-2
returns-in_ok-parse_list-in-2 g c =
    let f = frame_of c.args.buf.now in
    let here = sym c.kind.ensures ∙ c.in-2.is in
    actions_read matchall_options 2 refl f here _ (rw c.value-value.ensures.bytes at c.in_ok-parse_list-in-2.ensures.exact)

pub returns-in_err-parse_list-in-2 : goal.returns-in_err-parse_list-in-2
returns-in_err-parse_list-in-2 g c =
    let p = err_from_is_err_and c.from_residual-in_err-parse_list-in-2.result c.from_residual-in_err-parse_list-in-2.ensures.1 in
    let f = frame_of c.args.buf.now in
    let here = sym c.kind.ensures ∙ c.in-2.is in
    rw (p.1, p.2) (actions_refused matchall_options 2 refl f here _ (rw c.value-value.ensures.bytes at c.in_err-parse_list-in-2.ensures.exact))

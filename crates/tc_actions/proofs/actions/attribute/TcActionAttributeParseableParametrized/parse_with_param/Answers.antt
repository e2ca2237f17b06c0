use Rattle.std.proofs.Common.{sym, ◌∙◌}
use Rattle.std.proofs.lemmas.Result.{err_from_is_err_and}
use Rattle.tc_actions.proofs.AttributeLists.{options_read, options_refused, stats_read, stats_refused}
use Rattle.tc_actions.proofs.actions.attribute.TcActionAttributeParseableParametrized.parse_with_param.Goals as goal

pub returns-in_err-read_options-in-2 : goal.returns-in_err-read_options-in-2
returns-in_err-read_options-in-2 g c =
    let p = err_from_is_err_and c.from_residual-in_err-read_options-in-2.result c.from_residual-in_err-read_options-in-2.ensures.1 in
    rw (p.1, p.2) (options_refused c.args.kind.now _ (sym c.kind.ensures ∙ c.in-2.is) _
    (rw c.value-value.ensures.bytes at c.in_err-read_options-in-2.ensures))

pub returns-in_err-parse_list_with-in-4 : goal.returns-in_err-parse_list_with-in-4
returns-in_err-parse_list_with-in-4 g c =
    let p = err_from_is_err_and c.from_residual-in_err-parse_list_with-in-4.result c.from_residual-in_err-parse_list_with-in-4.ensures.1 in
    rw (p.1, p.2) (stats_refused c.args.kind.now _ (sym c.kind.ensures ∙ c.in-4.is) _
    (rw c.value-value.ensures.bytes at c.in_err-parse_list_with-in-4.ensures.exact))

pub returns-in_ok-read_options-in-2 : goal.returns-in_ok-read_options-in-2
returns-in_ok-read_options-in-2 g c =
    options_read c.args.kind.now _ (sym c.kind.ensures ∙ c.in-2.is) _ (rw c.value-value.ensures.bytes at c.in_ok-read_options-in-2.ensures)

pub returns-in_ok-parse_list_with-in-4 : goal.returns-in_ok-parse_list_with-in-4
returns-in_ok-parse_list_with-in-4 g c =
    stats_read c.args.kind.now _ (sym c.kind.ensures ∙ c.in-4.is) _ (rw c.value-value.ensures.bytes at c.in_ok-parse_list_with-in-4.ensures.exact)

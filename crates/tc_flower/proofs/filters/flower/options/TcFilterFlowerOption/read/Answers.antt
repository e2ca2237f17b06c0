use Rattle.std.proofs.Common.{[], refl, sym, ◌∙◌}
use Rattle.std.proofs.lemmas.Result.{err_from_is_err_and}
use Rattle.tc_canon.specs.Descriptor.{table}
use Rattle.tc_canon.specs.Tables.Flower.{flower_options, mpls_options}
use Rattle.tc_actions.specs.Action.{an_action}
use Rattle.tc_flower.specs.Reading.{flower_read}
use Rattle.tc_flower.proofs.MplsLists.{reads_items, refuses_items}
use Rattle.tc_flower.proofs.filters.flower.options.TcFilterFlowerOption.read.Goals as goal

pub returns-in_ok-parse_list-in-3 : goal.returns-in_ok-parse_list-in-3
unfolding flower_read
returns-in_ok-parse_list-in-3 g c =
    reads_items flower_options an_action 3 3 refl [] _ (sym c.kind.ensures ∙ c.in-3.is) _
    (rw c.value-in-3.ensures.bytes at c.in_ok-parse_list-in-3.ensures.exact)

pub returns-in_err-parse_list-in-3 : goal.returns-in_err-parse_list-in-3
unfolding flower_read
returns-in_err-parse_list-in-3 g c =
    let p = err_from_is_err_and c.from_residual-in_err-parse_list-in-3.result c.from_residual-in_err-parse_list-in-3.ensures.1 in
    rw (p.1, p.2) (refuses_items flower_options an_action 3 3 refl [] _ (sym c.kind.ensures ∙ c.in-3.is) _
    (rw c.value-in-3.ensures.bytes at c.in_err-parse_list-in-3.ensures.exact))

pub returns-in_ok-parse_list-in-99 : goal.returns-in_ok-parse_list-in-99
unfolding flower_read
returns-in_ok-parse_list-in-99 g c =
    reads_items flower_options (table mpls_options) 99 0x8063 refl [] _ (sym c.kind.ensures ∙ c.in-99.is) _
    (rw c.value-in-99.ensures.bytes at c.in_ok-parse_list-in-99.ensures.exact)

pub returns-in_err-parse_list-in-99 : goal.returns-in_err-parse_list-in-99
unfolding flower_read
returns-in_err-parse_list-in-99 g c =
    let p = err_from_is_err_and c.from_residual-in_err-parse_list-in-99.result c.from_residual-in_err-parse_list-in-99.ensures.1 in
    rw (p.1, p.2) (refuses_items flower_options (table mpls_options) 99 0x8063 refl [] _ (sym c.kind.ensures ∙ c.in-99.is) _
    (rw c.value-in-99.ensures.bytes at c.in_err-parse_list-in-99.ensures.exact))

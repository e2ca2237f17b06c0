use Rattle.std.proofs.Common.{sym, ◌∙◌}
use Rattle.serde_json.specs.View.{view}
use Rattle.forms_attributes.specs.Rows.{counts}
use Rattle.forms_values.specs.Tables.{row_view, rows_view}
use Rattle.forms_values.proofs.Search.{held_of_two, held_of_second}
use Rattle.forms_attributes.proofs.rows.row_held_of_two.Goals as goal

pub returns-in-Some : goal.returns-in-Some
returns-in-Some c =
    held_of_two (λ r. r.name) counts (view c.args.value.now) (rows_view c.args.rows.now.own.now) (rows_view c.args.rows.now.common.now)
    (row_view c.in-Some.found.0, view c.in-Some.found.1.now) c.in-Some.ensures

pub returns-in-None : goal.returns-in-None
returns-in-None c =
    c.row_held-in-None.ensures
    ∙ sym (held_of_second (λ r. r.name) counts (view c.args.value.now) (rows_view c.args.rows.now.own.now)
    (rows_view c.args.rows.now.common.now) c.in-None.ensures)

use Rattle.forms_values.specs.Tables.{row_view, rows_view}
use Rattle.forms_attributes.proofs.FirstRows.{shown_at}
use Rattle.forms_attributes.proofs.rows.shown_row.Goals as goal

pub returns-in-Some : goal.returns-in-Some
returns-in-Some c =
    shown_at (rows_view c.args.rows.now.own.now) (rows_view c.args.rows.now.common.now) c.args.word (row_view c.in-Some.row)
    c.in-Some.ensures.of_type c.in-Some.ensures.of_name

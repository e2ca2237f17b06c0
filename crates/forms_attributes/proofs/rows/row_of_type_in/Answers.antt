use Rattle.std.proofs.Common.{sym, ◌∙◌}
use Rattle.forms_attributes.specs.Rows.{of_type}
use Rattle.forms_values.specs.Tables.{row_view, rows_view}
use Rattle.forms_values.proofs.Search.{first_of_two, first_of_second}
use Rattle.forms_attributes.proofs.rows.row_of_type_in.Goals as goal

pub returns-in-Some : goal.returns-in-Some
returns-in-Some c =
    first_of_two (of_type c.args.word) (rows_view c.args.rows.now.own.now) (rows_view c.args.rows.now.common.now) (row_view c.in-Some.row) c.in-Some.ensures

pub returns-in-None : goal.returns-in-None
returns-in-None c =
    c.row_of_type-in-None.ensures
    ∙ sym (first_of_second (of_type c.args.word) (rows_view c.args.rows.now.own.now) (rows_view c.args.rows.now.common.now) c.in-None.ensures)

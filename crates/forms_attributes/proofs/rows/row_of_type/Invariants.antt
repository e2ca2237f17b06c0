use Rattle.std.proofs.Common.{◌≡◌, drop}
use Rattle.forms_attributes.specs.Rows.{of_type}
use Rattle.forms_values.specs.Search.{first}
use Rattle.forms_values.specs.Tables.{rows_view}
use Rattle.forms_attributes.proofs.rows.row_of_type.Given as goal

-- what is first from here is first of all
abbrev pub invariant-loop-row : goal.invariant-loop-row
invariant-loop-row l = first (of_type l.word) (rows_view l.rows) ≡ first (of_type l.word) (rows_view (drop l.row-index l.rows))

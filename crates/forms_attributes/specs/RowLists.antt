-- The rows of a list in the code: two slices, one after the other.
use Rattle.std.specs.Prelude.{List, ◌++◌}
use Rattle.forms_attributes.specs.declared.rows.RowList.{RowList}
use Rattle.forms_values.specs.Tables.{Row, rows_view}

abbrev pub rows_in : RowList → List Row
rows_in r = rows_view r.own.now ++ rows_view r.common.now

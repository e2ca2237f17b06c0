use Rattle.forms_values.specs.Tables.{fields_view}
use Rattle.forms_values.specs.Widths.{fields_width, width}
use Rattle.std.proofs.Common.{◌≡◌, ◌+◌, ◌*◌, drop}
use Rattle.forms_values.proofs.widths.+width.Given as goal

abbrev pub decreases-width : goal.decreases-width
decreases-width g l = 2 * l.depth

abbrev pub decreases-times_width : goal.decreases-times_width
decreases-times_width g l = 2 * l.depth + 1

abbrev pub decreases-fields_width : goal.decreases-fields_width
decreases-fields_width g l = 2 * l.depth + 1

abbrev pub invariant-fields_width-loop-field : goal.invariant-fields_width-loop-field
invariant-fields_width-loop-field g l =
    fields_width (width l.depth (g.T.Tables.parts_of l.table)) l.total (fields_view (drop l.field-index l.fields))
    ≡ fields_width (width l.depth (g.T.Tables.parts_of l.table)) 0 (fields_view l.fields)

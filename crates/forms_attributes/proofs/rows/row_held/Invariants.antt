use Rattle.std.proofs.Common.{◌≡◌, drop}
use Rattle.serde_json.specs.View.{view}
use Rattle.forms_attributes.specs.Rows.{counts}
use Rattle.forms_values.specs.Search.{held}
use Rattle.forms_values.specs.Tables.{rows_view}
use Rattle.forms_attributes.proofs.rows.row_held.Given as goal

-- what is held from here is held by all
abbrev pub invariant-loop-row : goal.invariant-loop-row
invariant-loop-row l =
    held (λ r. r.name) counts (rows_view l.rows) (view l.value) ≡ held (λ r. r.name) counts (rows_view (drop l.row-index l.rows)) (view l.value)

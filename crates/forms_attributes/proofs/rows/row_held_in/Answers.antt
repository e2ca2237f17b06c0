use Rattle.std.proofs.Common.{ap, sym, ◌∙◌}
use Rattle.std.specs.Prelude.{option_map}
use Rattle.serde_json.specs.View.{view}
use Rattle.forms_attributes.specs.Rows.{counts}
use Rattle.forms_attributes.specs.RowLists.{rows_in}
use Rattle.forms_values.specs.Search.{held}
use Rattle.forms_attributes.proofs.Single.{held_one}
use Rattle.forms_attributes.proofs.rows.row_held_in.Goals as goal

pub returns-in-Some-row_of_name_in : goal.returns-in-Some-row_of_name_in
returns-in-Some-row_of_name_in c =
    ap (option_map (λ r. (r, view c.in-Some.held.now))) c.in-Some-row_of_name_in.ensures
    ∙ sym (held_one (rows_in c.args.rows.now) c.in-Some.name.now (view c.in-Some.held.now))
    ∙ ap (held (λ r. r.name) counts (rows_in c.args.rows.now)) (sym c.in-Some.ensures)

pub returns-in-None-row_of_name_in : goal.returns-in-None-row_of_name_in
returns-in-None-row_of_name_in c =
    ap (option_map (λ r. (r, view c.in-Some.held.now))) c.in-None-row_of_name_in.ensures
    ∙ sym (held_one (rows_in c.args.rows.now) c.in-Some.name.now (view c.in-Some.held.now))
    ∙ ap (held (λ r. r.name) counts (rows_in c.args.rows.now)) (sym c.in-Some.ensures)

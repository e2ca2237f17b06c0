use Rattle.std.proofs.Common.{◌≡◌, ◌-◌, ◌∷◌, None, drop, rules, subst, sym, ◌∙◌}
use Rattle.forms_attributes.specs.Rows.{of_name, of_type}
use Rattle.forms_values.specs.Search.{first}
use Rattle.forms_values.specs.Tables.{row_view, rows_view}
use Rattle.forms_attributes.proofs.FirstRows.{first_there, of_own_name}
use Rattle.forms_attributes.proofs.rows.numbered_row.Goals as goal

pub returns-clause-of_type : goal.returns-clause-of_type
returns-clause-of_type c =
    let there : drop (c.from-number.result - 1) c.args.rows.now ≡ c.in-Some.row.now ∷ c.in-Some.field-0-1.now = search rules in
    first_there row_view (of_type c.args.word) (c.from-number.result - 1) c.args.rows.now c.in-Some.field-0-1.now c.in-Some.row.now
    (subst (λ b. first (of_type c.args.word) (rows_view b) ≡ None) c.split_at.ensures.front (c.are_others.ensures.of_type c.if-not-are_others.false))
    there (sym c.is_of_type.ensures ∙ c.if-not-is_of_type.false)

pub returns-clause-of_name : goal.returns-clause-of_name
returns-clause-of_name c =
    let there : drop (c.from-number.result - 1) c.args.rows.now ≡ c.in-Some.row.now ∷ c.in-Some.field-0-1.now = search rules in
    let typed = sym c.is_of_type.ensures ∙ c.if-not-is_of_type.false in
    first_there row_view (of_name c.in-Some.row.now.name.now) (c.from-number.result - 1) c.args.rows.now c.in-Some.field-0-1.now c.in-Some.row.now
    (subst (λ b. first (of_name c.in-Some.row.now.name.now) (rows_view b) ≡ None) c.split_at.ensures.front
    (c.are_others.ensures.of_name c.if-not-are_others.false))
    there (of_own_name c.args.word (row_view c.in-Some.row.now) typed)

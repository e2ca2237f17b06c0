use Rattle.forms_attributes.specs.AttributesMade.{each_under, listed_made}
use Rattle.forms_json.specs.Made.{make}
use Rattle.forms_values.specs.Records.{each_made, fields_made}
use Rattle.forms_values.specs.Tables.{fields_view}
use Rattle.forms_values.specs.Tables.{CodeField}
use Rattle.serde_json.specs.Data.{Data}
use denote.Text.{Utf8}
use denote.Shadow.{shadow}
use Rattle.std.proofs.Common.{List, ℕ, Option, ◌≡◌, ◌+◌, ◌*◌, drop, ◌++◌}
use Rattle.std.specs.Prelude.{option_map}
use Rattle.serde_json.specs.View.{view, items_view}
use Rattle.forms_values.specs.Places.{rows_under}
use Rattle.forms_attributes.specs.RowLists.{rows_in}
use Rattle.forms_json.proofs.make.+make.Given as goal

abbrev pub decreases-make_form : goal.decreases-make_form
decreases-make_form g l = 13 * l.at.now.depth + 0

abbrev pub decreases-make_in_form : goal.decreases-make_in_form
decreases-make_in_form g l = 13 * l.at.now.depth + 12

abbrev pub decreases-make_field : goal.decreases-make_field
decreases-make_field g l = 13 * l.at.now.depth + 2

abbrev pub decreases-make_member : goal.decreases-make_member
decreases-make_member g l = 13 * l.at.now.depth + 1

abbrev pub decreases-make_fields : goal.decreases-make_fields
decreases-make_fields g l = 13 * l.at.now.depth + 3

abbrev pub decreases-make_elements : goal.decreases-make_elements
decreases-make_elements g l = 13 * l.at.now.depth + 3

abbrev pub decreases-make_value : goal.decreases-make_value
decreases-make_value g l = 13 * l.at.now.depth + 2

abbrev pub decreases-make_held : goal.decreases-make_held
decreases-make_held g l = 13 * l.at.now.depth + 3

abbrev pub decreases-make_by_row : goal.decreases-make_by_row
decreases-make_by_row g l = 13 * l.at.now.depth + 4

abbrev pub decreases-make_attribute : goal.decreases-make_attribute
decreases-make_attribute g l = 13 * l.at.now.depth + 6

abbrev pub decreases-make_item : goal.decreases-make_item
decreases-make_item g l = 13 * l.at.now.depth + 8

abbrev pub decreases-make_list : goal.decreases-make_list
decreases-make_list g l = 13 * l.at.now.depth + 11

abbrev pub decreases-make_indexed : goal.decreases-make_indexed
decreases-make_indexed g l = 13 * l.at.now.depth + 3

abbrev pub decreases-make_layered : goal.decreases-make_layered
decreases-make_layered g l = 13 * l.at.now.depth + 7

abbrev pub decreases-make_chosen : goal.decreases-make_chosen
decreases-make_chosen g l = 13 * l.at.now.depth + 2

abbrev pub decreases-make_choice : goal.decreases-make_choice
decreases-make_choice g l = 13 * l.at.now.depth + 3

-- what is to be appended from here is what was to be appended from the start
abbrev pub invariant-make_fields-loop-field : goal.invariant-make_fields-loop-field
invariant-make_fields-loop-field g l =
    let table = g.T.Tables.parts_of l.at.table in
    let Left : List CodeField → Option (List ℕ) = λ fs.
    fields_made table (make table l.at.depth l.at.kind.now) (fields_view fs) (view l.value) in
    option_map (λ b. l.maker.bytes.items ++ b) (Left (drop l.field-index l.fields))
    ≡ option_map (λ b. l.initial.maker.bytes.items ++ b) (Left l.fields)

abbrev pub invariant-make_elements-loop-place : goal.invariant-make_elements-loop-place
invariant-make_elements-loop-place g l =
    let One = make (g.T.Tables.parts_of l.at.table) l.at.depth l.at.kind.now l.form in
    option_map (λ b. l.maker.bytes.items ++ b) (each_made One (items_view (drop l.place l.items)))
    ≡ option_map (λ b. l.initial.maker.bytes.items ++ b) (each_made One (items_view l.items))

abbrev pub invariant-make_list-loop-place : goal.invariant-make_list-loop-place
invariant-make_list-loop-place g l =
    let table = g.T.Tables.parts_of l.at.table in
    let One : List ℕ → Data → Option (List ℕ) = λ k d.
    listed_made (make table l.at.depth) (rows_under table l.list k) l.has l.held l.layer k d in
    shadow (Utf8 l.so_far)
    × ((rows_in l.rows ≡ rows_under table l.list l.so_far)
    × (option_map (λ b. l.maker.bytes.items ++ b) (each_under One l.in_force l.so_far (items_view (drop l.place l.items)))
    ≡ option_map (λ b. l.initial.maker.bytes.items ++ b) (each_under One l.in_force l.at.kind.now (items_view l.items))))

use Rattle.std.proofs.Common.{Some, None, ◌∙◌, ap, refl}
use Rattle.std.specs.Prelude.{[], option_and_then, false}
use Rattle.serde_json.specs.Find.{as_array}
use Rattle.serde_json.specs.View.{items_view, view}
use Rattle.forms_attributes.specs.AttributesMade.{each_under, kinded_made, layered_by, listed_made}
use Rattle.forms_values.specs.Choices.{by_choice_made}
use Rattle.forms_json.specs.Made.{make}
use Rattle.forms_values.specs.Places.{rows_under}
use Rattle.forms_values.specs.Records.{each_made, fields_made}
use Rattle.forms_attributes.specs.RowLists.{rows_in}
use Rattle.forms_values.specs.declared.form.Form.TheVariants as form
use Rattle.forms_json.proofs.Making.{fields_end, fields_fail, fields_more, items_end, items_fail, items_more, level_made, listed_end, listed_fails}
use Rattle.forms_json.proofs.Making.{listed_made_as, listed_more, plain_in_form, raw_made, shape_made, too_deep, under_own}
use Rattle.forms_json.proofs.make.+make.Goals as goal

pub make_elements-loop-place-preserved : goal.make_elements-loop-place-preserved
make_elements-loop-place-preserved g t c =
    items_more (make (g.T.Tables.parts_of c.args.at.now.table) c.args.at.now.depth c.args.at.now.kind.now c.args.form) c.as_slice-items.result.now
    c.loop-place.place c.args.maker.now.bytes.items c.loop-place.maker.bytes.items c.loop-place.invariant c.index-items-place.result c.loop-place-test.true
    c.index-items-place.is c.make_form.new.maker.bytes.items c.in-Ok.ensures

pub make_elements-returns-in-Err : goal.make_elements-returns-in-Err
make_elements-returns-in-Err g t c =
    items_fail (make (g.T.Tables.parts_of c.args.at.now.table) c.args.at.now.depth c.args.at.now.kind.now c.args.form) c.as_slice-items.result.now
    c.loop-place.place c.args.maker.now.bytes.items c.loop-place.maker.bytes.items c.loop-place.invariant c.index-items-place.result c.loop-place-test.true
    c.index-items-place.is (as_array (view c.args.value.now)) c.in-Err.e (ap (λ vs. Some (items_view vs)) c.as_slice-items.ensures.value ∙ c.in-Some.ensures)
    c.in-Err.ensures

pub make_elements-returns : goal.make_elements-returns
make_elements-returns g t c =
    items_end (make (g.T.Tables.parts_of c.args.at.now.table) c.args.at.now.depth c.args.at.now.kind.now c.args.form) c.as_slice-items.result.now
    c.loop-place.place c.args.maker.now.bytes.items c.loop-place.maker.bytes.items c.loop-place.invariant (as_array (view c.args.value.now))
    (ap (λ vs. Some (items_view vs)) c.as_slice-items.ensures.value ∙ c.in-Some.ensures) c.loop-place-test.false

pub make_list-loop-place-preserved : goal.make_list-loop-place-preserved
make_list-loop-place-preserved g t c =
    let table = g.T.Tables.parts_of c.args.at.now.table in (
      c.kind_from-so_far.utf8,
      listed_more (λ rows j x. listed_made (make table c.args.at.now.depth) rows c.args.has c.args.held c.args.layer.now j x)
          (rows_under table c.args.list) c.args.in_force c.as_slice-items.result.now c.loop-place.place c.args.at.now.kind.now c.loop-place.so_far.now
          c.args.maker.now.bytes.items c.loop-place.maker.bytes.items c.loop-place.invariant.1.1 c.index-items-place.result _ c.kind_from-so_far.result.now
          (rows_in c.rows_from-rows.result) c.loop-place-test.true c.index-items-place.is c.kind_named-set.ensures c.kind_from-so_far.ensures
          c.rows_from-rows.ensures c.make_item.new.maker.bytes.items c.in-Ok.ensures,
    )

pub make_list-returns-in-Err : goal.make_list-returns-in-Err
make_list-returns-in-Err g t c =
    let table = g.T.Tables.parts_of c.args.at.now.table in
    listed_fails (λ rows j x. listed_made (make table c.args.at.now.depth) rows c.args.has c.args.held c.args.layer.now j x) (rows_under table c.args.list)
    c.args.in_force c.as_slice-items.result.now c.loop-place.place c.args.at.now.kind.now c.loop-place.so_far.now c.args.maker.now.bytes.items
    c.loop-place.maker.bytes.items c.loop-place.invariant.1.1 c.index-items-place.result _ c.kind_from-so_far.result.now (rows_in c.rows_from-rows.result)
    c.loop-place-test.true c.index-items-place.is c.kind_named-set.ensures c.kind_from-so_far.ensures c.rows_from-rows.ensures
    (as_array (view c.args.value.now)) c.in-Err.e (ap (λ vs. Some (items_view vs)) c.as_slice-items.ensures.value ∙ c.in-Some.ensures) c.in-Err.ensures

pub make_list-returns : goal.make_list-returns
make_list-returns g t c =
    let table = g.T.Tables.parts_of c.args.at.now.table in
    listed_end (λ rows j x. listed_made (make table c.args.at.now.depth) rows c.args.has c.args.held c.args.layer.now j x) (rows_under table c.args.list)
    c.args.in_force c.as_slice-items.result.now c.loop-place.place c.args.at.now.kind.now c.loop-place.so_far.now c.args.maker.now.bytes.items
    c.loop-place.maker.bytes.items c.loop-place.invariant.1.1 (as_array (view c.args.value.now))
    (ap (λ vs. Some (items_view vs)) c.as_slice-items.ensures.value ∙ c.in-Some.ensures) c.loop-place-test.false

pub make_fields-loop-field-preserved : goal.make_fields-loop-field-preserved
make_fields-loop-field-preserved g t c =
    let table = g.T.Tables.parts_of c.args.at.now.table in
    fields_more table (make table c.args.at.now.depth c.args.at.now.kind.now) c.args.fields.now c.loop-field.field-index (view c.args.value.now)
    c.args.maker.now.bytes.items c.loop-field.maker.bytes.items c.loop-field.invariant _ c.loop-field-test.true c.make_field.new.maker.bytes.items
    c.in-Ok.ensures

pub make_fields-returns-in-Err : goal.make_fields-returns-in-Err
make_fields-returns-in-Err g t c =
    let table = g.T.Tables.parts_of c.args.at.now.table in
    fields_fail table (make table c.args.at.now.depth c.args.at.now.kind.now) c.args.fields.now c.loop-field.field-index (view c.args.value.now)
    c.args.maker.now.bytes.items c.loop-field.maker.bytes.items c.loop-field.invariant _ c.loop-field-test.true c.in-Err.e c.in-Err.ensures

pub make_fields-returns : goal.make_fields-returns
make_fields-returns g t c =
    let table = g.T.Tables.parts_of c.args.at.now.table in
    fields_end table (make table c.args.at.now.depth c.args.at.now.kind.now) c.args.fields.now c.loop-field.field-index (view c.args.value.now)
    c.args.maker.now.bytes.items c.loop-field.maker.bytes.items c.loop-field.invariant c.make_rest.new.maker.bytes.items c.make_rest.result
    c.loop-field-test.false c.make_rest.ensures

pub make_form-returns-in-Some : goal.make_form-returns-in-Some
make_form-returns-in-Some g t c =
    raw_made (g.T.Tables.parts_of c.args.at.now.table) c.args.at.now.depth c.args.at.now.kind.now c.args.form (view c.args.value.now)
    c.args.maker.now.bytes.items c.put_raw.new.maker.bytes.items c.in-Some.done c.in-Some.ensures.raw

pub make_form-returns-in-Some-checked_sub : goal.make_form-returns-in-Some-checked_sub
make_form-returns-in-Some-checked_sub g t c =
    level_made (g.T.Tables.parts_of c.args.at.now.table) c.args.at.now.depth c.in-Some-checked_sub.depth c.args.at.now.kind.now c.args.form
    (view c.args.value.now) c.args.maker.now.bytes.items c.put_raw.new.maker.bytes.items c.make_in_form.new.maker.bytes.items c.make_in_form.result
    c.in-Some-checked_sub.ensures c.in-None.ensures.none c.in-None.ensures.kept c.make_in_form.ensures

pub make_form-returns-in-None-checked_sub : goal.make_form-returns-in-None-checked_sub
make_form-returns-in-None-checked_sub g t c =
    too_deep (g.T.Tables.parts_of c.args.at.now.table) c.args.at.now.depth c.args.at.now.kind.now c.args.form (view c.args.value.now) c.unfit.result
    c.in-None-checked_sub.ensures c.in-None.ensures.none

pub make_in_form-returns-in-Record : goal.make_in_form-returns-in-Record
make_in_form-returns-in-Record g t c =
    let table = g.T.Tables.parts_of c.args.at.now.table in let Made = make table c.args.at.now.depth in let k = c.args.at.now.kind.now in
    shape_made table Made k c.args.form (form.Record c.in-Record.place) (view c.args.value.now) _ c.args.maker.now.bytes.items
    c.make_fields.new.maker.bytes.items c.make_fields.result c.in-Record.is
    (ap (λ fs. fields_made table (Made k) fs (view c.args.value.now)) c.fields_at.ensures) c.make_fields.ensures

pub make_in_form-returns-in-Array : goal.make_in_form-returns-in-Array
make_in_form-returns-in-Array g t c =
    let table = g.T.Tables.parts_of c.args.at.now.table in let Made = make table c.args.at.now.depth in let k = c.args.at.now.kind.now in
    shape_made table Made k c.args.form (form.Array c.in-Array.place) (view c.args.value.now) _ c.args.maker.now.bytes.items
    c.make_elements.new.maker.bytes.items c.make_elements.result c.in-Array.is (ap
    (λ f. option_and_then (each_made (Made k f)) (as_array (view c.args.value.now))) c.form_at.ensures) c.make_elements.ensures

pub make_in_form-returns-in-Times : goal.make_in_form-returns-in-Times
make_in_form-returns-in-Times g t c =
    let table = g.T.Tables.parts_of c.args.at.now.table in let Made = make table c.args.at.now.depth in let k = c.args.at.now.kind.now in
    shape_made table Made k c.args.form (form.Times c.in-Times.field-0 c.in-Times.place) (view c.args.value.now) _ c.args.maker.now.bytes.items
    c.make_elements-in-Times.new.maker.bytes.items c.make_elements-in-Times.result c.in-Times.is (ap
    (λ f. option_and_then (each_made (Made k f)) (as_array (view c.args.value.now))) c.form_at-in-Times.ensures) c.make_elements-in-Times.ensures

pub make_in_form-returns-in-List : goal.make_in_form-returns-in-List
make_in_form-returns-in-List g t c =
    let table = g.T.Tables.parts_of c.args.at.now.table in let Made = make table c.args.at.now.depth in let k = c.args.at.now.kind.now in
    shape_made table Made k c.args.form (form.List c.in-List.place) (view c.args.value.now) _ c.args.maker.now.bytes.items c.make_list.new.maker.bytes.items
    c.make_list.result c.in-List.is (ap (λ l. option_and_then (each_under (λ j x. layered_by Made (rows_under table c.in-List.place j) false l j x) false k)
    (as_array (view c.args.value.now))) c.layer_at-layer.ensures) c.make_list.ensures

pub make_in_form-returns-in-Indexed : goal.make_in_form-returns-in-Indexed
make_in_form-returns-in-Indexed g t c =
    let table = g.T.Tables.parts_of c.args.at.now.table in let Made = make table c.args.at.now.depth in let k = c.args.at.now.kind.now in
    shape_made table Made k c.args.form (form.Indexed c.in-Indexed.place) (view c.args.value.now) _ c.args.maker.now.bytes.items
    c.make_list-in-Indexed.new.maker.bytes.items c.make_list-in-Indexed.result c.in-Indexed.is (ap (λ f. option_and_then (each_under
    (λ j x. listed_made Made (rows_under table c.in-Indexed.place j) false (Some f) [] j x) false k) (as_array (view c.args.value.now)))
    c.form_at-in-Indexed.ensures) c.make_list-in-Indexed.ensures

pub make_in_form-returns-in-InForce : goal.make_in_form-returns-in-InForce
make_in_form-returns-in-InForce g t c =
    let table = g.T.Tables.parts_of c.args.at.now.table in let Made = make table c.args.at.now.depth in let k = c.args.at.now.kind.now in
    shape_made table Made k c.args.form (form.InForce c.in-InForce.place) (view c.args.value.now) _ c.args.maker.now.bytes.items
    c.make_list-in-InForce.new.maker.bytes.items c.make_list-in-InForce.result c.in-InForce.is refl c.make_list-in-InForce.ensures

pub make_in_form-returns-in-Own : goal.make_in_form-returns-in-Own
make_in_form-returns-in-Own g t c =
    let table = g.T.Tables.parts_of c.args.at.now.table in let Made = make table c.args.at.now.depth in let k = c.args.at.now.kind.now in
    shape_made table Made k c.args.form (form.Own c.in-Own.place) (view c.args.value.now) _ c.args.maker.now.bytes.items
    c.make_list-in-Own.new.maker.bytes.items c.make_list-in-Own.result c.in-Own.is (under_own (kinded_made table Made c.in-Own.place)
    (as_array (view c.args.value.now)) _ c.own_kind_named.ensures) c.make_list-in-Own.ensures

pub make_in_form-returns-in-Choice : goal.make_in_form-returns-in-Choice
make_in_form-returns-in-Choice g t c =
    let table = g.T.Tables.parts_of c.args.at.now.table in let Made = make table c.args.at.now.depth in let k = c.args.at.now.kind.now in
    shape_made table Made k c.args.form (form.Choice c.in-Choice.place) (view c.args.value.now) _ c.args.maker.now.bytes.items
    c.make_choice.new.maker.bytes.items c.make_choice.result c.in-Choice.is
    (ap (λ cs. by_choice_made (Made k) cs (view c.args.value.now)) c.choices_at.ensures) c.make_choice.ensures

pub make_in_form-returns-in_default : goal.make_in_form-returns-in_default
make_in_form-returns-in_default g t c =
    let table = g.T.Tables.parts_of c.args.at.now.table in let Made = make table c.args.at.now.depth in let k = c.args.at.now.kind.now in
    shape_made table Made k c.args.form c.args.form (view c.args.value.now) _ c.args.maker.now.bytes.items c.make_plain.new.maker.bytes.items
    c.make_plain.result refl (plain_in_form table Made k c.args.form (view c.args.value.now) c.in_default.not-Record c.in_default.not-Array
    c.in_default.not-Times c.in_default.not-List c.in_default.not-InForce c.in_default.not-Own c.in_default.not-Indexed c.in_default.not-Choice)
    c.make_plain.ensures

pub make_item-returns-in-Some : goal.make_item-returns-in-Some
make_item-returns-in-Some g t c =
    c.in-Some.ensures.raw (listed_made (make (g.T.Tables.parts_of c.args.at.now.table) c.args.at.now.depth) (rows_in c.args.rows.now) c.args.has c.args.held
    c.args.layer.now c.args.at.now.kind.now (view c.args.value.now))

pub make_item-returns-in-Some-held : goal.make_item-returns-in-Some-held
make_item-returns-in-Some-held g t c =
    listed_made_as (make (g.T.Tables.parts_of c.args.at.now.table) c.args.at.now.depth) (rows_in c.args.rows.now) c.args.has c.args.held
    (Some c.in-Some-held.form) c.args.layer.now c.args.at.now.kind.now (view c.args.value.now) c.args.maker.now.bytes.items c.put_raw.new.maker.bytes.items
    c.make_indexed.new.maker.bytes.items c.make_indexed.result c.in-Some-held.is c.in-None.ensures.none c.in-None.ensures.kept c.make_indexed.ensures

pub make_item-returns-in-None-held : goal.make_item-returns-in-None-held
make_item-returns-in-None-held g t c =
    listed_made_as (make (g.T.Tables.parts_of c.args.at.now.table) c.args.at.now.depth) (rows_in c.args.rows.now) c.args.has c.args.held None c.args.layer.now
    c.args.at.now.kind.now (view c.args.value.now) c.args.maker.now.bytes.items c.put_raw.new.maker.bytes.items c.make_layered.new.maker.bytes.items
    c.make_layered.result c.in-None-held.is c.in-None.ensures.none c.in-None.ensures.kept c.make_layered.ensures

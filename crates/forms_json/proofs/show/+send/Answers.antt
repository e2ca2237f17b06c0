use Rattle.std.proofs.Common.{List, ℕ, drop, length, rules, sym, ap, ◌∙◌, refl, subst}
use Rattle.serde_json.specs.Data.{Data, array, member, no_members, number, unsigned}
use Rattle.forms_attributes.specs.Frames.{PaddedFrame, frame_view}
use Rattle.forms_values.specs.Tables.{Row}
use Rattle.forms_attributes.specs.Attributes.{attribute, beside, by_row, frames, indexed, layered, listed, pad_member}
use Rattle.forms_values.specs.Choices.{by_choice, chosen}
use Rattle.forms_values.specs.Places.{rows_under}
use Rattle.forms_attributes.specs.RowLists.{rows_in}
use Rattle.forms_values.specs.Records.{after_field, elements_of, field_of}
use Rattle.forms_values.specs.Sent.{Sent, events}
use Rattle.forms_json.specs.Shown.{show}
use Rattle.forms_values.specs.Widths.{fixed}
use Rattle.std.proofs.lemmas.Result.{on_ok_weaker}
use Rattle.forms_values.specs.declared.form.Form.TheVariants as form
use Rattle.std.specs.Prelude.{OnOk, true, false, codes, unwrap_or}
use Rattle.forms_json.proofs.Showing.{level_sent, number_sent, plain_when, empty_is, full_is, frames_more, frames_end}
use Rattle.forms_values.proofs.Sending.{map_sent, member_sent, list_sent}
use Rattle.forms_json.proofs.Showing.{frames_over, elements_more, elements_end, elements_over, fields_more, fields_end, shape_sent}
use Rattle.forms_values.proofs.Sending.{object_sent, sent_none}
use Rattle.forms_values.proofs.Sending.{then_sent}
use Rattle.forms_json.proofs.Showing.{too_deep_sent}
use Rattle.forms_json.proofs.show.+send.Goals as goal

pub send_attributes-returns-in-None : goal.send_attributes-returns-in-None
send_attributes-returns-in-None g t c =
    let table = g.T.Tables.parts_of c.args.at.now.table in let Rows = rows_under table c.args.place in
    on_ok_weaker c.send_tail.result (frames_end (λ k x. listed (show table c.args.at.now.depth) (Rows k) c.args.has c.args.held c.args.layer.now k x)
    c.args.in_force (length c.args.bytes.now) c.loop-count._count c.args.at.now.kind.now c.loop-count.so_far.now c.args.bytes.now c.loop-count.left.now _ _ _
    c.loop-count.invariant.1.1 c.in-None.ensures.frame) c.send_tail.ensures

pub send_attributes-loop-count-preserved : goal.send_attributes-loop-count-preserved
send_attributes-loop-count-preserved g t c =
    let table = g.T.Tables.parts_of c.args.at.now.table in
    let Rows = rows_under table c.args.place in
    let One : List Row → List ℕ → PaddedFrame → Data = λ rows k x.
    listed (show table c.args.at.now.depth) rows c.args.has c.args.held c.args.layer.now k x in
    let same = c.rows_from-rows.ensures ∙ ap Rows (sym c.kind_from-so_far.ensures) in
    let sent = subst (λ rows. Sent (events (One rows c.kind_from-so_far.result.now (frame_view c.in-Some.found.0)))
    (g.S.Serializer.written c.loop-count.out) (g.S.Serializer.written c.send_item.new.out)) same c.in_ok-send_item.ensures in (
      c.kind_from-so_far.utf8,
      (
        same,
        frames_more (λ k x. One (Rows k) k x) c.args.in_force (length c.args.bytes.now) c.loop-count._count c.args.at.now.kind.now
            c.loop-count.so_far.now c.args.bytes.now c.loop-count.left.now _ _ _ c.loop-count.invariant.1.1 _ _ _ c.loop-count-test.true
            c.in-Some.ensures.frame c.in-Some.ensures.after
            (c.kind_from-so_far.ensures ∙ ap (λ o. unwrap_or o c.loop-count.so_far.now) c.kind_in-set.ensures) sent,
      ),
    )

pub send_attributes-returns : goal.send_attributes-returns
send_attributes-returns g t c =
    let table = g.T.Tables.parts_of c.args.at.now.table in let Rows = rows_under table c.args.place in
    on_ok_weaker c.send_tail-2.result (frames_over (λ k x. listed (show table c.args.at.now.depth) (Rows k) c.args.has c.args.held c.args.layer.now k x)
    c.args.in_force (length c.args.bytes.now) c.loop-count._count c.args.at.now.kind.now c.loop-count.so_far.now c.args.bytes.now c.loop-count.left.now _ _ _
    c.loop-count.invariant.1.1 c.loop-count-test.false) c.send_tail-2.ensures

pub send_each_element-returns-then-is_empty : goal.send_each_element-returns-then-is_empty
send_each_element-returns-then-is_empty g t c =
    let table = g.T.Tables.parts_of c.args.at.now.table in
    elements_end table (show table c.args.at.now.depth c.args.at.now.kind.now) c.args.form c.args.width (length c.args.bytes.now) c.loop-count._count
    c.args.bytes.now c.loop-count.left.now _ _ (g.S.Serializer.written c.loop-count.out) c.loop-count.invariant
    (empty_is c.loop-count.left.now c.if-is_empty.ensures)

pub send_each_element-loop-count-preserved : goal.send_each_element-loop-count-preserved
send_each_element-loop-count-preserved g t c =
    let table = g.T.Tables.parts_of c.args.at.now.table in
    elements_more table (show table c.args.at.now.depth c.args.at.now.kind.now) c.args.form c.args.width _ _ c.args.bytes.now c.loop-count.left.now _ _ _
    c.loop-count.invariant _ _ c.loop-count-test.true (full_is c.loop-count.left.now c.if-is_empty.ensures) c.split.ensures.field c.split.ensures.after
    c.in_ok-send_form.ensures

pub send_each_element-returns-then-is_empty-2 : goal.send_each_element-returns-then-is_empty-2
send_each_element-returns-then-is_empty-2 g t c =
    let table = g.T.Tables.parts_of c.args.at.now.table in
    elements_end table (show table c.args.at.now.depth c.args.at.now.kind.now) c.args.form c.args.width (length c.args.bytes.now) c.loop-count._count
    c.args.bytes.now c.loop-count.left.now _ _ (g.S.Serializer.written c.loop-count.out) c.loop-count.invariant
    (empty_is c.loop-count.left.now c.if-is_empty-2.ensures)

pub send_each_element-returns : goal.send_each_element-returns
send_each_element-returns g t c =
    let table = g.T.Tables.parts_of c.args.at.now.table in
    on_ok_weaker c.send_form-2.result (elements_over table (show table c.args.at.now.depth c.args.at.now.kind.now) c.args.form c.args.width _ _
    c.args.bytes.now c.loop-count.left.now _ _ _ c.loop-count.invariant c.loop-count-test.false (full_is c.loop-count.left.now c.if-is_empty-2.ensures))
    c.send_form-2.ensures

pub send_fields-loop-field-preserved : goal.send_fields-loop-field-preserved
send_fields-loop-field-preserved g t c =
    let table = g.T.Tables.parts_of c.args.at.now.table in
    let left = c.loop-field.left.now in
    fields_more table (show table c.args.at.now.depth c.args.at.now.kind.now) c.args.fields.now c.loop-field.field-index c.args.bytes.now left _ _ _
    c.loop-field.invariant _ _ _ c.loop-field-test.true (c.split.ensures.field ∙ ap (λ w. field_of w left) c.fixed_width-width.ensures)
    (c.split.ensures.after ∙ ap (λ w. after_field w left) c.fixed_width-width.ensures) c.in_ok-send_field.ensures

pub send_fields-returns : goal.send_fields-returns
send_fields-returns g t c =
    let table = g.T.Tables.parts_of c.args.at.now.table in
    on_ok_weaker c.send_rest.result (fields_end table (show table c.args.at.now.depth c.args.at.now.kind.now) c.args.fields.now c.loop-field.field-index
    c.args.bytes.now c.loop-field.left.now _ _ _ c.loop-field.invariant c.loop-field-test.false) c.send_rest.ensures

pub send_any-returns-in-Some : goal.send_any-returns-in-Some
send_any-returns-in-Some g t c =
    level_sent (g.T.Tables.parts_of c.args.at.now.table) c.args.at.now.depth c.in-Some.depth c.args.at.now.kind.now c.args.form c.args.bytes.now _ _
    c.send_in_form.result c.in-Some.ensures c.send_in_form.ensures

pub send_any-returns-in-None : goal.send_any-returns-in-None
send_any-returns-in-None g t c =
    too_deep_sent (g.T.Tables.parts_of c.args.at.now.table) c.args.at.now.depth c.args.at.now.kind.now c.args.form c.args.bytes.now _ _ c.send_raw.result
    c.in-None.ensures c.send_raw.ensures

pub send_in_form-returns-in-Record : goal.send_in_form-returns-in-Record
send_in_form-returns-in-Record g t c =
    let table = g.T.Tables.parts_of c.args.at.now.table in let Inner = show table c.args.at.now.depth in let k = c.args.at.now.kind.now in
    shape_sent table Inner k c.args.form (form.Record c.in-Record.place) c.args.bytes.now _ _ _ c.send_record.result c.in-Record.is refl c.send_record.ensures

pub send_in_form-returns-in-Array : goal.send_in_form-returns-in-Array
send_in_form-returns-in-Array g t c =
    let table = g.T.Tables.parts_of c.args.at.now.table in let Inner = show table c.args.at.now.depth in let k = c.args.at.now.kind.now in
    shape_sent table Inner k c.args.form (form.Array c.in-Array.place) c.args.bytes.now _ _ _ c.send_elements.result c.in-Array.is
    (ap (λ f. array (elements_of (Inner k) f (fixed table f) c.args.bytes.now)) (sym c.form_at.ensures)) c.send_elements.ensures

pub send_in_form-returns-in-Times : goal.send_in_form-returns-in-Times
send_in_form-returns-in-Times g t c =
    let table = g.T.Tables.parts_of c.args.at.now.table in let Inner = show table c.args.at.now.depth in let k = c.args.at.now.kind.now in
    shape_sent table Inner k c.args.form (form.Times c.in-Times.field-0 c.in-Times.place) c.args.bytes.now _ _ _ c.send_elements-in-Times.result c.in-Times.is
    (ap (λ f. array (elements_of (Inner k) f (fixed table f) c.args.bytes.now)) (sym c.form_at-in-Times.ensures)) c.send_elements-in-Times.ensures

pub send_in_form-returns-in-List : goal.send_in_form-returns-in-List
send_in_form-returns-in-List g t c =
    let table = g.T.Tables.parts_of c.args.at.now.table in let Inner = show table c.args.at.now.depth in let k = c.args.at.now.kind.now in
    shape_sent table Inner k c.args.form (form.List c.in-List.place) c.args.bytes.now _ _ _ c.send_list.result c.in-List.is (ap (λ l. array (frames
    (λ j x. layered l (attribute Inner (rows_under table c.in-List.place j) false j x)) false (length c.args.bytes.now) k c.args.bytes.now))
    (sym c.layer_at-layer.ensures)) c.send_list.ensures

pub send_in_form-returns-in-InForce : goal.send_in_form-returns-in-InForce
send_in_form-returns-in-InForce g t c =
    let table = g.T.Tables.parts_of c.args.at.now.table in let Inner = show table c.args.at.now.depth in let k = c.args.at.now.kind.now in
    shape_sent table Inner k c.args.form (form.InForce c.in-InForce.place) c.args.bytes.now _ _ _ c.send_list-in-InForce.result c.in-InForce.is refl
    c.send_list-in-InForce.ensures

pub send_in_form-returns-in-Own : goal.send_in_form-returns-in-Own
send_in_form-returns-in-Own g t c =
    let table = g.T.Tables.parts_of c.args.at.now.table in let Inner = show table c.args.at.now.depth in let k = c.args.at.now.kind.now in
    shape_sent table Inner k c.args.form (form.Own c.in-Own.place) c.args.bytes.now _ _ _ c.send_list-in-Own.result c.in-Own.is (ap (λ own. array (frames
    (λ j x. attribute Inner (rows_under table c.in-Own.place j) true j x) false (length c.args.bytes.now) own c.args.bytes.now)) (sym c.own_kind.ensures))
    c.send_list-in-Own.ensures

pub send_in_form-returns-in-Indexed : goal.send_in_form-returns-in-Indexed
send_in_form-returns-in-Indexed g t c =
    let table = g.T.Tables.parts_of c.args.at.now.table in let Inner = show table c.args.at.now.depth in let k = c.args.at.now.kind.now in
    shape_sent table Inner k c.args.form (form.Indexed c.in-Indexed.place) c.args.bytes.now _ _ _ c.send_list-in-Indexed.result c.in-Indexed.is (ap (λ f.
    array (frames (λ j x. indexed x (Inner j f x.value)) false (length c.args.bytes.now) k c.args.bytes.now)) (sym c.form_at-in-Indexed.ensures))
    c.send_list-in-Indexed.ensures

pub send_in_form-returns-in-Choice : goal.send_in_form-returns-in-Choice
send_in_form-returns-in-Choice g t c =
    let table = g.T.Tables.parts_of c.args.at.now.table in let Inner = show table c.args.at.now.depth in let k = c.args.at.now.kind.now in
    shape_sent table Inner k c.args.form (form.Choice c.in-Choice.place) c.args.bytes.now _ _ _ c.send_choice.result c.in-Choice.is (ap
    (λ cs. by_choice (Inner k) c.args.bytes.now (chosen cs c.args.bytes.now)) (sym c.choices_at.ensures)) c.send_choice.ensures

pub send_in_form-returns-in_default : goal.send_in_form-returns-in_default
send_in_form-returns-in_default g t c =
    let table = g.T.Tables.parts_of c.args.at.now.table in let Inner = show table c.args.at.now.depth in let k = c.args.at.now.kind.now in
    shape_sent table Inner k c.args.form c.args.form c.args.bytes.now _ _ _ c.send_plain.result refl (plain_when table Inner k c.args.form c.args.bytes.now
    c.in_default.not-Record c.in_default.not-Array c.in_default.not-Times c.in_default.not-List c.in_default.not-InForce c.in_default.not-Own
    c.in_default.not-Indexed c.in_default.not-Choice) c.send_plain.ensures

pub send_elements-returns : goal.send_elements-returns
send_elements-returns g t c =
    on_ok_weaker c.end_seq.result (list_sent _ _ _ _ _ c.in_ok-begin_seq.ensures c.in_ok-send_elements_of.ensures) c.end_seq.ensures

pub send_list-returns : goal.send_list-returns
send_list-returns g t c =
    on_ok_weaker c.end_seq.result (list_sent _ _ _ _ _ c.in_ok-begin_seq.ensures c.in_ok-send_attributes.ensures) c.end_seq.ensures

pub send_form-returns-in-Number : goal.send_form-returns-in-Number
send_form-returns-in-Number g t c =
    number_sent (g.T.Tables.parts_of c.args.at.now.table) c.args.at.now.depth c.args.at.now.kind.now c.args.form c.in-Number.number c.args.bytes.now _ _
    c.send_bytes_number.result (search rules) c.in-Number.is c.send_bytes_number.ensures

pub send_by_row-returns-in_ok-send_beside-in-Some : goal.send_by_row-returns-in_ok-send_beside-in-Some
send_by_row-returns-in_ok-send_beside-in-Some g t c =
    let Show = show (g.T.Tables.parts_of c.args.at.now.table) c.args.at.now.depth in let k = c.args.at.now.kind.now in
    subst (λ o. OnOk c.end_map.result (Sent (events (by_row Show (rows_in c.args.rows.now) false k (frame_view c.args.frame.now) o))
    (g.S.Serializer.written c.args.out.now) (g.S.Serializer.written c.end_map.new.out))) c.in-Some.ensures (on_ok_weaker c.end_map.result (object_sent
    c.in-Some.row.name.now (Show k c.in-Some.row.form c.args.frame.now.value.now) (beside c.in-Some.row.word (frame_view c.args.frame.now)) _ _ _ _ _ _
    c.in_ok-begin_map-in-Some.ensures c.in_ok-key-in-Some.ensures c.in_ok-send_form-in-Some.ensures c.in_ok-send_beside-in-Some.ensures) c.end_map.ensures)

pub send_choice-returns-in_ok-send_form-in-Some : goal.send_choice-returns-in_ok-send_form-in-Some
send_choice-returns-in_ok-send_form-in-Some g t c =
    let Inner = show (g.T.Tables.parts_of c.args.at.now.table) c.args.at.now.depth c.args.at.now.kind.now in
    subst (λ o. OnOk c.end_map.result (Sent (events (by_choice Inner c.args.bytes.now o)) (g.S.Serializer.written c.args.out.now)
    (g.S.Serializer.written c.end_map.new.out))) c.in-Some.ensures (on_ok_weaker c.end_map.result (object_sent c.in-Some.choice.name.now
    (Inner c.in-Some.choice.form (drop (length c.in-Some.choice.prefix.now) c.args.bytes.now)) no_members _ _ _ _ _ _ c.in_ok-begin_map-in-Some.ensures
    c.in_ok-key-in-Some.ensures (subst (λ b. Sent (events (Inner c.in-Some.choice.form b)) (g.S.Serializer.written c.key.new.out)
    (g.S.Serializer.written c.send_form.new.out)) c.bytes_from-held.ensures c.in_ok-send_form-in-Some.ensures)
    (sent_none (g.S.Serializer.written c.send_form.new.out))) c.end_map.ensures)

pub send_indexed-returns : goal.send_indexed-returns
send_indexed-returns g t c =
    let d = show (g.T.Tables.parts_of c.args.at.now.table) c.args.at.now.depth c.args.at.now.kind.now c.args.form c.args.frame.now.value.now in
    let n = number (unsigned c.args.frame.now.word) in let ms = member (codes "attributes") d (pad_member (frame_view c.args.frame.now)) in
    on_ok_weaker c.end_map.result (map_sent (member (codes "tab") n ms) _ _ _ _ c.in_ok-begin_map.ensures (then_sent (codes "tab") n ms _ _ _
    c.in_ok-send_word.ensures (member_sent (codes "attributes") d (pad_member (frame_view c.args.frame.now)) _ _ _ _ c.in_ok-key.ensures
    c.in_ok-send_form.ensures c.in_ok-send_pad.ensures))) c.end_map.ensures

use Rattle.forms_attributes.specs.Attributes.{frames, listed}
use Rattle.forms_values.specs.Records.{elements, members}
use Rattle.forms_values.specs.Sent.{Sent, items_events, members_events}
use Rattle.forms_json.specs.Shown.{show}
use Rattle.forms_values.specs.Tables.{fields_view}
use denote.Text.{Utf8}
use denote.Shadow.{shadow}
use Rattle.std.proofs.Common.{List, ℕ, ◌+◌, ◌*◌, ◌-◌, length, drop, ◌≡◌}
use Rattle.serde.specs.Event.{Event, Log}
use Rattle.serde_json.specs.Data.{Data}
use Rattle.forms_attributes.specs.Frames.{PaddedFrame}
use Rattle.forms_values.specs.Tables.{CodeField}
use Rattle.forms_values.specs.Places.{rows_under}
use Rattle.forms_attributes.specs.RowLists.{rows_in}
use Rattle.forms_json.proofs.show.+send.Given as goal

abbrev pub decreases-send_form : goal.decreases-send_form
decreases-send_form g l = 8 * l.at.now.depth + 1

abbrev pub decreases-send_in_form : goal.decreases-send_in_form
decreases-send_in_form g l = 8 * l.at.now.depth + 7

abbrev pub decreases-send_any : goal.decreases-send_any
decreases-send_any g l = 8 * l.at.now.depth + 0

abbrev pub decreases-send_fields : goal.decreases-send_fields
decreases-send_fields g l = 8 * l.at.now.depth + 3

abbrev pub decreases-send_field : goal.decreases-send_field
decreases-send_field g l = 8 * l.at.now.depth + 2

abbrev pub decreases-send_elements_of : goal.decreases-send_elements_of
decreases-send_elements_of g l = 8 * l.at.now.depth + 3

abbrev pub decreases-send_each_element : goal.decreases-send_each_element
decreases-send_each_element g l = 8 * l.at.now.depth + 2

abbrev pub decreases-send_record : goal.decreases-send_record
decreases-send_record g l = 8 * l.at.now.depth + 4

abbrev pub decreases-send_elements : goal.decreases-send_elements
decreases-send_elements g l = 8 * l.at.now.depth + 4

abbrev pub decreases-send_list : goal.decreases-send_list
decreases-send_list g l = 8 * l.at.now.depth + 6

abbrev pub decreases-send_attributes : goal.decreases-send_attributes
decreases-send_attributes g l = 8 * l.at.now.depth + 5

abbrev pub decreases-send_item : goal.decreases-send_item
decreases-send_item g l = 8 * l.at.now.depth + 4

abbrev pub decreases-send_attribute : goal.decreases-send_attribute
decreases-send_attribute g l = 8 * l.at.now.depth + 3

abbrev pub decreases-send_by_row : goal.decreases-send_by_row
decreases-send_by_row g l = 8 * l.at.now.depth + 2

abbrev pub decreases-send_indexed : goal.decreases-send_indexed
decreases-send_indexed g l = 8 * l.at.now.depth + 3

abbrev pub decreases-send_choice : goal.decreases-send_choice
decreases-send_choice g l = 8 * l.at.now.depth + 2

-- whatever ends it well from here ends it well from the start
abbrev pub invariant-send_fields-loop-field : goal.invariant-send_fields-loop-field
invariant-send_fields-loop-field g l =
    let table = g.T.Tables.parts_of l.at.table in
    let Shown : List CodeField → List ℕ → List Event = λ fs b. members_events (members table (show table l.at.depth l.at.kind.now) (fields_view fs) b) in
    (end : Log) → Sent (Shown (drop l.field-index l.fields) l.left) (g.S.Serializer.written l.out) end
    → Sent (Shown l.fields l.bytes) (g.S.Serializer.written l.initial.out) end

abbrev pub invariant-send_each_element-loop-count : goal.invariant-send_each_element-loop-count
invariant-send_each_element-loop-count g l =
    let Inner = show (g.T.Tables.parts_of l.at.table) l.at.depth l.at.kind.now in
    (end : Log) → Sent (items_events (elements Inner (length l.bytes - l._count) l.form l.width l.left)) (g.S.Serializer.written l.out) end
    → Sent (items_events (elements Inner (length l.bytes) l.form l.width l.bytes)) (g.S.Serializer.written l.initial.out) end

abbrev pub invariant-send_attributes-loop-count : goal.invariant-send_attributes-loop-count
invariant-send_attributes-loop-count g l =
    let table = g.T.Tables.parts_of l.at.table in
    let One : List ℕ → PaddedFrame → Data = λ k c. listed (show table l.at.depth) (rows_under table l.place k) l.has l.held l.layer k c in
    shadow (Utf8 l.so_far)
    × ((rows_in l.rows ≡ rows_under table l.place l.so_far)
    × ((end : Log) → Sent (items_events (frames One l.in_force (length l.bytes - l._count) l.so_far l.left)) (g.S.Serializer.written l.out) end
    → Sent (items_events (frames One l.in_force (length l.bytes) l.at.kind.now l.bytes)) (g.S.Serializer.written l.initial.out) end))

-- An attribute with a row of the table, or a raw one, is written so.
use Rattle.std.proofs.Common.{◌≡◌, ℕ, ◌<◌, ◌^◌}
use Rattle.tc_canon.specs.Layouts.{stats}
use Rattle.tc_canon.specs.Tables.Messages.{attributes}
use Rattle.tc_meaning.specs.Tree.{Attribute}
use Rattle.tc_values.specs.Inner.{IsInner}
use Rattle.tc_values.specs.Row.{IsRow, attribute_of}
use Rattle.tc_values.specs.declared.value.Value.{Value}
use Rattle.tc_values.proofs.Bodies.{are_items, is_either}
use Rattle.tc_values.proofs.Rows.{shown_as}
use Rattle.tc_records.specs.Statistics.{stats_scalars}
use Rattle.tc_values.proofs.Records.{is_record}
use Rattle.tc_actions.proofs.StatsBodies.{is_xstats}
use Rattle.tc_messages.specs.Attribute.{Nested, nested, IsWritten}

is_nested : {A : Type 0} → IsInner (nested {A = A})
is_nested = is_either _ _ (is_either _ _ (are_items _ _) (are_items _ _)) (is_either _ _ (is_record stats_scalars stats) is_xstats)

pub written : {A : Type 0} (x : Attribute) (word : ℕ) (v : Value (Nested A)) → x ≡ attribute_of nested word v → IsRow nested attributes word v → word < 2 ^ 16
    → IsWritten x word v
written x word v seen row low =
    let shown = shown_as nested is_nested attributes word x v seen row in
    record { same_word = shown.same_word; bytes = shown.bytes; fits = shown.fits; typed = shown.typed low }

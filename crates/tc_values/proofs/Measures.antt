-- A length measured for one value is the length of another with the same bytes.
use Rattle.std.proofs.Common.{◌≡◌, ◌↔◌, ℕ, List, Option, Some, None, length, ap, ◌∙◌}
use Rattle.nla_frames.specs.Emission.{Measures}
use Rattle.tc_canon.specs.Descriptor.{Rows, table}
use Rattle.tc_meaning.specs.Tree.{Attribute}
use Rattle.tc_meaning.specs.Meaning.{table_codec}
use Rattle.tc_values.specs.Inner.{Inner}
use Rattle.tc_values.specs.Row.{ShownAs}
use Rattle.tc_values.specs.Value.{value_bytes, ValueFits}
use Rattle.tc_values.specs.declared.value.Value.{Value}

-- equal bytes, which fit if and only if the others do
pub same_measure : {Fits Same : Type 0} {bytes again : List ℕ} → Fits ↔ Same → bytes ≡ again → (measured : Option ℕ) → Measures measured Fits bytes
    → Measures measured Same again
same_measure fits is None never = λ same. never (fits.1 same)
same_measure fits is (Some n) told = (fits.0 told.0, told.1 ∙ ap length is)

-- the length of a value is the length of its attribute's payload
pub measured : {N : Type 0} (inner : Inner N) (rows : Rows) (x : Attribute) (word : ℕ) (v : Value N) (len : Option ℕ) → ShownAs inner rows x word v
    → Measures len (ValueFits inner.Fits v) (value_bytes inner.bytes v)
    → Measures len ((table_codec (table rows)).Fits x) ((table_codec (table rows)).write x).value
measured inner rows x word v len shown given = same_measure shown.fits shown.bytes len given

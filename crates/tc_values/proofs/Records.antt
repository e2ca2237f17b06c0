-- Nested records satisfy `IsInner`, and their `==` compares abstract values.
use Rattle.std.proofs.Common.{◌≡◌, ◌&&◌, List, Bool, true, false, refl}
use Rattle.std.specs.Ordering.{on}
use Rattle.tc_canon.specs.Descriptor.{Field, fields}
use Rattle.tc_meaning.specs.Tree.{Scalar}
use Rattle.tc_meaning.specs.Content.{a_record, record_codec}
use Rattle.tc_meaning.specs.Equal.{same_scalars}
use Rattle.tc_values.specs.Inner.{IsInner}
use Rattle.tc_values.specs.Records.{record_part}
use Rattle.tc_values.specs.Same.{IsSame}
use Rattle.tc_values.specs.declared.body.Record.{Record}
use Rattle.tc_values.proofs.Bodies.{is_part}
use Rattle.tc_values.proofs.SameRows.{same_part}

pub is_record : {R : Type 0} (see : R → List Scalar) (layout : List Field) → IsInner (record_part see layout)
is_record see layout = is_part see a_record (record_codec layout) (fields layout) refl (λ x. refl)

abbrev pub same_record : {R : Type 0} → (R → List Scalar) → Record R → Record R → Bool
same_record see r s = on see same_scalars r.0.now s.0.now

pub are_same_records : {R : Type 0} (see : R → List Scalar) (layout : List Field) → IsSame (record_part see layout) (same_record see)
are_same_records see layout = same_part see a_record (record_codec layout) (fields layout) (on see same_scalars) refl (λ r s. refl)

-- `b && true` is `b`: the end of a record's chain of comparisons
pub and_none : (b : Bool) → b ≡ (b && true)
and_none true = refl
and_none false = refl

-- `==` of a nested record whose type derives it
abbrev pub same_of : {R : Type 0} → (R → R → Bool) → Record R → Record R → Bool
same_of same r s = same r.0.now s.0.now

-- The abstract values of nested payloads: none, a list, a record, either of two.
use Rattle.std.specs.Prelude.{◌≤◌, ℕ, Bool, false, List, [], map, length}
use Rattle.std.specs.List.{AllByRecursion}
use Rattle.nla_frames.specs.Reading.{keep}
use Rattle.nla_frames.specs.Emission.{list_bytes, NestedFits}
use Rattle.nla_frames.specs.Codec.{Codec, SettledEach}
use Rattle.tc_canon.specs.Descriptor.{Class, Table, table, others, list_of}
use Rattle.tc_meaning.specs.Tree.{Attribute, items, none, attributes_of}
use Rattle.tc_meaning.specs.Content.{Shape}
use Rattle.tc_meaning.specs.Meaning.{table_codec}
use Rattle.tc_values.specs.Inner.{Inner}
use Rattle.tc_values.specs.declared.body.NoBody.{NoBody}
use Rattle.tc_values.specs.declared.body.Items.{Items}
use Rattle.tc_values.specs.declared.body.Record.{Record}
use Rattle.tc_values.specs.declared.body.Either.{Either}
use Rattle.tc_values.specs.declared.body.Either.TheVariants.{Left, Right}

-- the type without values, for attributes that nest nothing
abbrev pub nothing : Inner NoBody
nothing = record {
  class = λ n. list_of (table others);
  content = λ n. items none;
  bytes = λ n. [];
  Fits = λ n. Unit {0};
  Typed = λ n. Unit {0};
  Settled = λ kind n. Unit {0};
}

-- a list; `see` maps an element to an attribute of this table
abbrev pub items_of : {T : Type 0} → (T → Attribute) → Table → Inner (Items T)
items_of see t = record {
  class = λ xs. list_of t;
  content = λ xs. items (attributes_of (map see xs.0.now));
  bytes = λ xs. list_bytes (table_codec t).write (map see xs.0.now);
  Fits = λ xs. NestedFits (table_codec t).Fits (table_codec t).write (map see xs.0.now);
  Typed = λ xs. AllByRecursion (table_codec t).Typed (map see xs.0.now);
  Settled = λ kind xs. SettledEach (table_codec t).Settled keep kind (map see xs.0.now);
}

-- a record, a selector or statistics, as content of this class
abbrev pub part_of : {R X : Type 0} → (R → X) → Shape X → Codec (List ℕ) X → Class → Inner (Record R)
part_of see shape codec class = record {
  class = λ r. class;
  content = λ r. shape.into (see r.0.now);
  bytes = λ r. codec.write (see r.0.now);
  Fits = λ r. codec.Fits (see r.0.now) × (length (codec.write (see r.0.now)) ≤ 65531);
  Typed = λ r. codec.Typed (see r.0.now);
  Settled = λ kind r. codec.Settled kind (see r.0.now);
}

abbrev pub either_of : {L R X : Type 0} → (L → X) → (R → X) → Either L R → X
either_of left right (Left body) = left body
either_of left right (Right body) = right body

abbrev pub EitherHolds : {L R : Type 0} → (L → Type 0) → (R → Type 0) → Either L R → Type 0
EitherHolds LeftHolds RightHolds (Left body) = LeftHolds body
EitherHolds LeftHolds RightHolds (Right body) = RightHolds body

-- either of two
abbrev pub either : {L R : Type 0} → Inner L → Inner R → Inner (Either L R)
either left right = record {
  class = either_of left.class right.class;
  content = either_of left.content right.content;
  bytes = either_of left.bytes right.bytes;
  Fits = EitherHolds left.Fits right.Fits;
  Typed = EitherHolds left.Typed right.Typed;
  Settled = λ kind. EitherHolds (left.Settled kind) (right.Settled kind);
}

abbrev pub same_of_either : {L R : Type 0} → (L → L → Bool) → (R → R → Bool) → Either L R → Either L R → Bool
same_of_either left right (Left one) (Left another) = left one another
same_of_either left right (Right one) (Right another) = right one another
same_of_either left right one another = false

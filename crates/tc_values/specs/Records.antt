-- Records as payloads of attributes.
use Rattle.std.specs.Prelude.{List}
use Rattle.tc_canon.specs.Descriptor.{Field, fields}
use Rattle.tc_meaning.specs.Tree.{Scalar}
use Rattle.tc_meaning.specs.Content.{a_record, record_codec}
use Rattle.tc_values.specs.Inner.{Inner}
use Rattle.tc_values.specs.Bodies.{part_of}
use Rattle.tc_values.specs.declared.body.Record.{Record}

-- a record whose abstract value is the fields of this layout
abbrev pub record_part : {R : Type 0} → (R → List Scalar) → List Field → Inner (Record R)
record_part see layout = part_of see a_record (record_codec layout) (fields layout)

-- The reading of a frame by flower's table.
use Rattle.std.specs.Prelude.{[]}
use Rattle.nla_frames.specs.Fault.{Outcome}
use Rattle.nla_frames.specs.Frame.{Frame}
use Rattle.tc_canon.specs.Descriptor.{table}
use Rattle.tc_canon.specs.Tables.Flower.{flower_options}
use Rattle.tc_meaning.specs.Tree.{Attribute}
use Rattle.tc_meaning.specs.Meaning.{table_codec}

-- the reading of a frame, under any kind
unfoldable pub flower_read : Frame → Outcome Attribute
flower_read f = (table_codec (table flower_options)).read [] f

-- Definitions that the contracts of every enum of attributes use.
pub use Rattle.std.specs.Ordering.{on}
pub use Rattle.nla_frames.specs.Frame.{type_of}
pub use Rattle.tc_canon.specs.Descriptor.{table}
pub use Rattle.tc_meaning.specs.Tree.{Attribute}
pub use Rattle.tc_meaning.specs.Meaning.{table_codec}
pub use Rattle.tc_meaning.specs.Short.{table_short}
pub use Rattle.tc_meaning.specs.Equal.{same_attribute, attribute_equiv, attribute_per}

-- Definitions that the contracts of every record use.
pub use Rattle.std.specs.Ordering.{on}
pub use Rattle.nla_frames.specs.Fault.{seen}
pub use Rattle.tc_meaning.specs.Tree.{Scalar}
pub use Rattle.tc_meaning.specs.Layout.{SettledFields}
pub use Rattle.tc_meaning.specs.Content.{read_record, record_codec}
pub use Rattle.tc_meaning.specs.Equal.{same_scalars, scalars_equiv, scalars_per}

-- The definitions of lower crates that contracts over messages cite, exported from one place.
pub use Rattle.nla_frames.specs.Codec.{Codec}
pub use Rattle.nla_frames.specs.Fault.{Outcome, Returns, IfRefused, UnlessMemory, seen, name_of}
pub use Rattle.nla_frames.specs.declared.error.DecodeError.{DecodeError}
pub use Rattle.nla_frames.specs.declared.error.DecodeError.TheVariants.{OutOfMemory}
pub use Rattle.nla_frames.specs.Emission.{Writes, HasRoom}
pub use Rattle.tc_canon.specs.Canonical.{CanonTc, CanonAct}
pub use Rattle.tc_meaning.specs.Message.{Message}
pub use Rattle.tc_meaning.specs.Whole.{Words, Correspond, tc_words, action_words}
pub use Rattle.tc_meaning.specs.Whole.{ReadsTc, FaultTc, read_tc, tc_bytes, TypedTc, FitsTc, SettledTc}
pub use Rattle.tc_meaning.specs.Whole.{ReadsAct, FaultAct, read_act, act_bytes, TypedAct, FitsAct, SettledAct}
pub use Rattle.tc_action_messages.specs.ActionMessage.{action_message}
pub use Rattle.tc_messages.specs.Message.{tc_message}

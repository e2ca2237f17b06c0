-- The abstract value of an action message.
use Rattle.std.specs.Prelude.{map, ℕ, List}
use Rattle.tc_canon.specs.Tables.Messages.{action_message_attributes}
use Rattle.tc_meaning.specs.Message.{Message}
use Rattle.tc_meaning.specs.Whole.{ReadsAct}
use Rattle.tc_laws.specs.Unknown.{TakesUnknown}
use Rattle.tc_records.specs.Actions.{action_message_header_scalars}
use Rattle.tc_action_messages.specs.declared.message.TcActionMessage.{TcActionMessage}
use Rattle.tc_action_messages.specs.ActionMessageAttribute.{action_message_attribute}

abbrev pub action_message : {A : Type 0} → TcActionMessage A → Message
action_message m = record { header = action_message_header_scalars m.header; body = map action_message_attribute m.attributes.items }

-- a frame of an unknown type may be inserted anywhere among its attributes
abbrev pub TakesUnknownAct : List ℕ → Message → Type 0
TakesUnknownAct = TakesUnknown 4 action_message_attributes ReadsAct

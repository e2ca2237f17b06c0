-- The abstract value of a message.
use Rattle.std.specs.Prelude.{map, ℕ, List}
use Rattle.tc_canon.specs.Tables.Messages.{attributes}
use Rattle.tc_meaning.specs.Message.{Message}
use Rattle.tc_meaning.specs.Whole.{ReadsTc}
use Rattle.tc_laws.specs.Unknown.{TakesUnknown}
use Rattle.tc_records.specs.Header.{header_scalars}
use Rattle.tc_messages.specs.declared.message.TcMessage.{TcMessage}
use Rattle.tc_messages.specs.Attribute.{tc_attribute}

abbrev pub tc_message : {A : Type 0} → TcMessage A → Message
tc_message m = record { header = header_scalars m.header; body = map tc_attribute m.attributes.items }

-- a frame of an unknown type may be inserted anywhere among its attributes
abbrev pub TakesUnknownTc : List ℕ → Message → Type 0
TakesUnknownTc = TakesUnknown 20 attributes ReadsTc

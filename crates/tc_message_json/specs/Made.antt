-- The bytes of the message in JSON.
use Rattle.std.specs.Prelude.{◌≡◌, ℕ, List, Some}
use Rattle.serde_json.specs.Data.{Data}
use Rattle.tc_wire.specs.Facade.{Message, Words}
use Rattle.forms_values.specs.declared.form.Form.{Form}
use Rattle.forms_json.specs.Made.{made_of}
use Rattle.forms_text.specs.Strict.{json_of}
use Rattle.forms_kinds.specs.Table.{tc_tables}
use Rattle.tc_message_json.specs.declared.error.NoMessage.{NoMessage}
use Rattle.tc_message_json.specs.declared.error.NoMessage.TheVariants.{OutOfMemory}

-- the bytes of the JSON, which is also their JSON
pub record IsGiven (form : Form) (json : Data) (bytes : List ℕ) : Type 0 where
  pub stands : made_of tc_tables form json ≡ Some bytes
  pub shown : json_of tc_tables form bytes ≡ json

-- `given` reads as a settled message that fits, and `bytes` are its bytes
pub record IsWrittenOf (words : Words Message) (given bytes : List ℕ) : Type 0 where
  pub message : Message
  pub reads : words.Reads given message
  pub settled : words.Settled message
  pub fits : words.Fits message
  pub is : bytes ≡ words.bytes message

-- the bytes of the message that is read from the bytes of the JSON
abbrev pub IsMadeOf : Words Message → Form → Data → List ℕ → Type 0
IsMadeOf words form json bytes = (given : List ℕ) × IsGiven form json given × IsWrittenOf words given bytes

-- memory ran out
abbrev pub IsMemory : NoMessage → Type 0
IsMemory e = e ≡ OutOfMemory

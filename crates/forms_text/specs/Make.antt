-- Why a text can't be turned into bytes.
use Rattle.std.specs.Prelude.{◌≡◌, ℕ, List, option_and_then}
use Rattle.serde_json.specs.Read.{read}
use Rattle.forms_values.specs.declared.error.MakeError.TheVariants as make
use Rattle.forms_values.specs.declared.form.Form.{Form}
use Rattle.forms_values.specs.Appended.{Fails}
use Rattle.forms_json.specs.Made.{made_of}
use Rattle.forms_values.specs.Tables.{Table}
use Rattle.forms_text.specs.declared.error.ReadError.TheVariants as read_error
use Rattle.forms_text.specs.declared.error.TextError.{TextError}
use Rattle.forms_text.specs.declared.error.TextError.TheVariants.{Read, Make}
use Rattle.forms_text.specs.Read.{IsCause}

-- memory ran out
abbrev pub IsMemory : TextError → Type 0
IsMemory (Read e) = e ≡ read_error.OutOfMemory
IsMemory (Make e) = e ≡ make.OutOfMemory

-- the text can't be read, or the JSON that is read can't be turned into bytes
abbrev pub IsTextCause : Table → Form → List ℕ → TextError → Type 0
IsTextCause table form text (Read e) = IsCause text e
IsTextCause table form text (Make e) = Fails (option_and_then (made_of table form) (read text)) e

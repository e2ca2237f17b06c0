-- The JSON of bytes as a reader has it, and why JSON can't be turned into bytes strictly.
use Rattle.std.specs.Prelude.{◌≡◌, ℕ, List}
use Rattle.serde_json.specs.Data.{Data}
use Rattle.forms_values.specs.declared.error.MakeError.TheVariants.{OutOfMemory}
use Rattle.forms_values.specs.declared.form.Form.{Form}
use Rattle.forms_json.specs.Ordered.{ordered}
use Rattle.forms_json.specs.Shown.{shown_of}
use Rattle.forms_values.specs.Tables.{Table}
use Rattle.forms_text.specs.declared.error.StrictError.{StrictError}
use Rattle.forms_text.specs.declared.error.StrictError.TheVariants.{Make}

-- the JSON of bytes, the members of each object in the order of their names
abbrev pub json_of : Table → Form → List ℕ → Data
json_of table form bytes = ordered (shown_of table form bytes)

-- memory ran out
abbrev pub IsMemory : StrictError → Type 0
IsMemory e = e ≡ Make OutOfMemory

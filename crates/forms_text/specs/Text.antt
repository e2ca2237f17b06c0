-- The text of JSON.
use Rattle.std.specs.Prelude.{ℕ, Bool, List, Some}
use Rattle.json.specs.Lex.{tokens}
use Rattle.serde_json.specs.Data.{Data}
use Rattle.serde_json.specs.Sent.{AreTokensOf}
use Rattle.forms_values.specs.Sent.{events}

-- the text that `serde_json` writes for JSON that is sent to it: compact, indented, or on the way to a `Value` (`narrow`)
abbrev pub IsJsonText : Data → List ℕ → Type 0
IsJsonText json text = (narrow : Bool) × AreTokensOf narrow (Some (events json)) (tokens text)

-- Choices by length or by the first bytes.
use Rattle.std.specs.Prelude.{Bool, List, None, Option, Some, bytes_eq, codes, drop, if◌then◌else◌, length, not, option_and_then, option_map}
use Rattle.std.specs.Prelude.{take, unwrap_or, ℕ, ◌&&◌, ◌++◌, ◌==◌}
use Rattle.serde_json.specs.Data.{Data}
use Rattle.serde_json.specs.Find.{get}
use Rattle.forms_values.specs.Raw.{hex, hex_made, one}
use Rattle.forms_values.specs.Names.{is_reserved}
use Rattle.forms_values.specs.Search.{first, held}
use Rattle.forms_values.specs.Tables.{Choice}
use Rattle.forms_values.specs.declared.form.Form.{Form}

-- a choice counts unless its name is reserved
abbrev pub is_choice : Choice → Bool
is_choice c = not (is_reserved c.name)

-- a choice that counts, of this name
abbrev pub is_named : List ℕ → Choice → Bool
is_named name c = is_choice c && bytes_eq c.name name

-- bytes of the choice's length that begin with its prefix
abbrev pub follows : List ℕ → Choice → Bool
follows b c = is_choice c && (unwrap_or c.len (length b) == length b && bytes_eq (take (length c.prefix) b) c.prefix)

-- the choice, if the bytes follow it
abbrev pub choice_if : List ℕ → Choice → Option Choice
choice_if b c = if follows b c then Some c else None

-- the first that bytes follow, if it is the first of its name too
abbrev pub chosen : List Choice → List ℕ → Option Choice
chosen cs b = option_and_then (choice_if b) (option_and_then (λ c. first (is_named c.name) cs) (first (follows b) cs))

module _ (Inner : Form → List ℕ → Data) where
  -- the bytes after the prefix, under the name of the choice
  abbrev pub by_choice : List ℕ → Option Choice → Data
  by_choice b None = one (codes "Other") (hex b)
  by_choice b (Some c) = one c.name (Inner c.form (drop (length c.prefix) b))

-- ---- and back

module _ (Inner : Form → Data → Option (List ℕ)) where
  abbrev pub choice_made : Option (Choice × Data) → Option (List ℕ)
  choice_made None = None
  choice_made (Some m) = option_map (λ b. m.0.prefix ++ b) (Inner m.0.form m.1)

  abbrev pub other_or : Option Data → Option (Choice × Data) → Option (List ℕ)
  other_or None m = choice_made m
  other_or (Some d) m = hex_made d

  abbrev pub by_choice_made : List Choice → Data → Option (List ℕ)
  by_choice_made cs d = other_or (get (codes "Other") d) (held (λ c. c.name) is_choice cs d)

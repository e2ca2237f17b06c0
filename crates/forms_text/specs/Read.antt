-- Texts that are read as JSON, and why a text can't be read.
use Rattle.std.specs.Prelude.{◌≡◌, ℕ, ◌+◌, ◌-◌, ◌||◌, Bool, true, false, List, [], ◌∷◌, nat_le, None, IsSomeAnd, IsUtf8}
use Rattle.json.specs.Json.{document}
use Rattle.json.specs.Lex.{tokens}
use Rattle.json.specs.Strict.{HasUniqueKeys}
use Rattle.json.specs.Token.{Token}
use Rattle.serde_json.specs.Read.{max_depth, read}
use Rattle.forms_text.specs.declared.error.ReadError.{ReadError}
use Rattle.forms_text.specs.declared.error.ReadError.TheVariants.{OutOfMemory, NotJson, TooDeep, Repeated}

-- no object of the text has a name twice
abbrev pub HasNamesOnce : List ℕ → Type 0
HasNamesOnce text = IsSomeAnd (document text) HasUniqueKeys

-- at this depth of open lists and objects, a token opens one more than may nest
abbrev pub opens_too_many : ℕ → List Token → Bool
opens_too_many depth [] = false
opens_too_many depth (Token.begin_object ∷ ts) = nat_le max_depth depth || opens_too_many (depth + 1) ts
opens_too_many depth (Token.end_object ∷ ts) = opens_too_many (depth - 1) ts
opens_too_many depth (Token.begin_array ∷ ts) = nat_le max_depth depth || opens_too_many (depth + 1) ts
opens_too_many depth (Token.end_array ∷ ts) = opens_too_many (depth - 1) ts
opens_too_many depth (Token.key s ∷ ts) = opens_too_many depth ts
opens_too_many depth (Token.string s ∷ ts) = opens_too_many depth ts
opens_too_many depth (Token.number s ∷ ts) = opens_too_many depth ts
opens_too_many depth (Token.boolean b ∷ ts) = opens_too_many depth ts
opens_too_many depth (Token.null ∷ ts) = opens_too_many depth ts
opens_too_many depth (Token.bad ∷ ts) = opens_too_many depth ts

-- the lists and objects of the text nest more than 127 levels deep
abbrev pub is_too_deep : List ℕ → Bool
is_too_deep text = opens_too_many 0 (tokens text)

-- why a text can't be read: it isn't JSON, or an object has a name twice
abbrev pub IsCause : List ℕ → ReadError → Type 0
IsCause text OutOfMemory = Unit {0}
IsCause text (NotJson line column) = IsUtf8 text → (read text ≡ None) × (is_too_deep text ≡ false)
IsCause text (TooDeep line column) = (read text ≡ None) × (is_too_deep text ≡ true)
IsCause text (Repeated path) = IsSomeAnd (document text) (λ json. ¬ HasUniqueKeys json)

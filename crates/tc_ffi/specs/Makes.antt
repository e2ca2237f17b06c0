-- Status and output of a call that builds a message from JSON.
use Rattle.std.specs.Prelude.{◌≡◌, ◌≢◌, ◌⊎◌, ℕ, List, ◌≤◌, IsUtf8, length, take, drop, Some, None, IsSomeAnd}
use Rattle.json.specs.Json.{document}
use Rattle.json.specs.Strict.{HasUniqueKeys}
use Rattle.serde_json.specs.Data.{Data}
use Rattle.serde_json.specs.Read.{read}
use Rattle.nla_frames.specs.Value.{IsBytes}
use Rattle.tc_wire.specs.Facade.{Message, Words}
use Rattle.forms_values.specs.declared.form.Form.{Form}
use Rattle.forms_text.specs.Read.{HasNamesOnce}
use Rattle.forms_text.specs.Strict.{json_of}
use Rattle.forms_kinds.specs.Table.{tc_tables}
use Rattle.tc_ffi.specs.Calls.{Keeps, KeepsNumber, IsPlaced}

-- the text is this JSON, in UTF-8, and no object of it has a name twice
abbrev pub IsReadAs : List ℕ → Data → Type 0
IsReadAs text json = IsUtf8 text × (read text ≡ Some json) × HasNamesOnce text

-- an object of the text has a name twice
abbrev pub HasNameTwice : List ℕ → Type 0
HasNameTwice text = IsSomeAnd (document text) (λ json. ¬ HasUniqueKeys json)

-- the bytes of a canonical message
abbrev pub IsCanonical : Words Message → List ℕ → Type 0
IsCanonical words bytes = IsBytes bytes × words.Canonical bytes

module _ (form : Form) (IsWanted : List ℕ → Type 0) where
  -- none of the bytes that are wanted have this JSON
  abbrev pub IsOfNone : Data → Type 0
  IsOfNone json = (bytes : List ℕ) → IsWanted bytes → json_of tc_tables form bytes ≡ json → ⊥

  -- the text builds nothing: an object of it has a name twice, or none of the bytes that are wanted have its JSON
  abbrev pub BuildsNone : List ℕ → Type 0
  BuildsNone text = HasNameTwice text ⊎ ((json : Data) × IsReadAs text json × IsOfNone json)

  -- 0 or 13: bytes built from the JSON of the text; 15: it isn't JSON; 16: it builds nothing; 11: out of memory
  abbrev pub Makes : (Data → List ℕ → Type 0) → List ℕ → List ℕ → List ℕ → ℕ → ℕ → Type 0
  Makes IsMadeOf text old new len status =
      (((json : Data) × IsReadAs text json × ((bytes : List ℕ) × IsMadeOf json bytes × IsPlaced bytes old new len status))
      ⊎ ((status ≡ 15) × (IsUtf8 text → read text ≡ None))) ⊎ (((status ≡ 16) × BuildsNone text) ⊎ (status ≡ 11))

  -- from the JSON of bytes that are wanted these bytes are built, unless memory runs out
  abbrev pub MakesAgain : List ℕ → List ℕ → List ℕ → ℕ → ℕ → Type 0
  MakesAgain text old new len status =
      (bytes : List ℕ) → IsWanted bytes → IsReadAs text (json_of tc_tables form bytes) → IsPlaced bytes old new len status ⊎ (status ≡ 11)

-- a text in UTF-8 is at the front of the buffer, and the bytes after it are unchanged
pub record IsText (old new : List ℕ) (len : ℕ) : Type 0 where
  pub room : len ≤ length old
  pub text : IsUtf8 (take len new)
  pub after : drop len new ≡ drop len old

-- the bytes that a call builds, or a text with the reason if the input isn't JSON or builds no bytes
pub record IsMade (form : Form) (IsWanted : List ℕ → Type 0) (IsMadeOf : Data → List ℕ → Type 0) (text old new : List ℕ) (old_len len : ℕ)
    (why_old why_new : List ℕ) (why_len status : ℕ) : Type 0 where
  pub makes : Makes form IsWanted IsMadeOf text old new len status
  pub again : MakesAgain form IsWanted text old new len status
  pub kept : Keeps old new status
  pub len_kept : KeepsNumber old_len len status
  pub explains : IsText why_old why_new why_len
  pub quiet : status ≢ 15 → status ≢ 16 → why_len ≡ 0

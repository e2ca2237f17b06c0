-- The text of the JSON of bytes is read, no object in it has a name twice, and it is turned into these bytes, unless memory runs out.
use Rattle.std.proofs.Common.{◌≡◌, ℕ, List, [], Option, Some, None, refl, ap, sym, ◌∙◌, arith}
use Rattle.std.specs.Prelude.{option_and_then, IsSomeAnd, IsUtf8}
use Rattle.json.specs.Json.{Json, document}
use Rattle.json.specs.Strict.{HasUniqueKeys}
use Rattle.nla_frames.specs.Value.{IsBytes}
use Rattle.serde_json.specs.Read.{read}
use Rattle.forms_values.specs.declared.error.MakeError.TheVariants as make
use Rattle.forms_values.specs.declared.form.Form.{Form}
use Rattle.forms_json.specs.Made.{made_of}
use Rattle.forms_json.specs.Ordered.{ordered}
use Rattle.forms_values.specs.Tables.{Table}
use Rattle.forms_json.specs.Shown.{shown_of}
use Rattle.forms_values.specs.Widths.{deepest}
use Rattle.forms_values.proofs.Search.{none_not_some, some_is}
use Rattle.forms_json.proofs.Law.{shown_read}
use Rattle.forms_text.specs.declared.error.ReadError.TheVariants.{OutOfMemory, NotJson, TooDeep, Repeated}
use Rattle.forms_text.specs.declared.error.TextError.{TextError}
use Rattle.forms_text.specs.declared.error.TextError.TheVariants.{Read, Make}
use Rattle.forms_text.specs.Make.{IsMemory, IsTextCause}
use Rattle.forms_text.specs.Read.{HasNamesOnce}
use Rattle.forms_text.specs.Text.{IsJsonText}
use Rattle.forms_text.proofs.Readable.{Readable}
use Rattle.forms_text.proofs.ReadJson.{text_read, text_once}
use Rattle.forms_text.proofs.ShownReadable.{shown_readable}

module _ (table : Table) (f : Form) (bytes : List ℕ) (h : IsBytes bytes) where
  readable : Readable (shown_of table f bytes) 49
  unfolding shown_of
  readable = shown_readable table deepest [] f bytes h

  pub shown_made : made_of table f (ordered (shown_of table f bytes)) ≡ Some bytes
  unfolding shown_of made_of
  shown_made = shown_read table deepest [] f bytes h

  module _ (text : List ℕ) (is : IsJsonText (shown_of table f bytes) text) where
    pub shown_is_read : read text ≡ Some (ordered (shown_of table f bytes))
    shown_is_read = text_read (shown_of table f bytes) 49 text readable (omega arith) is

    pub shown_once : HasNamesOnce text
    shown_once = text_once (shown_of table f bytes) 49 text readable (omega arith) is

    all_made : option_and_then (made_of table f) (read text) ≡ Some bytes
    all_made = ap (option_and_then (made_of table f)) shown_is_read ∙ shown_made

    -- the text is turned into these bytes
    pub same_made : (b : List ℕ) → option_and_then (made_of table f) (read text) ≡ Some b → b ≡ bytes
    same_made b e = some_is b bytes (sym e ∙ all_made)

    unread : {P : Type 0} → read text ≡ None → P
    unread e = absurd (none_not_some (ordered (shown_of table f bytes)) (sym e ∙ shown_is_read))

    never_twice : {P : Type 0} (o : Option Json) → IsSomeAnd o HasUniqueKeys → IsSomeAnd o (λ j. HasUniqueKeys j → ⊥) → P
    never_twice None once twice = absurd once
    never_twice (Some j) once twice = absurd (twice once)

    -- it fails to be read, or to be turned into bytes, only if memory ran out
    pub only_memory : (e : TextError) → IsUtf8 text → IsTextCause table f text e → IsMemory e
    only_memory (Read OutOfMemory) utf8 cause = refl
    only_memory (Read (NotJson line column)) utf8 cause = unread (cause utf8).0
    only_memory (Read (TooDeep line column)) utf8 cause = unread cause.0
    only_memory (Read (Repeated path)) utf8 cause = never_twice (document text) shown_once cause
    only_memory (Make make.OutOfMemory) utf8 cause = refl
    only_memory (Make (make.Wrong path found wanted)) utf8 cause = absurd (none_not_some bytes (sym (cause (λ e. cc)) ∙ all_made))

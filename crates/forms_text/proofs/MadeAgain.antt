-- JSON that is shown for bytes is turned into these bytes, unless memory runs out.
use Rattle.std.proofs.Common.{◌≡◌, ◌⊎◌, ℕ, List, [], Some, inl, inr, refl, sym, ◌∙◌, subst}
use Rattle.nla_frames.specs.Value.{IsBytes}
use Rattle.serde_json.specs.Data.{Data}
use Rattle.forms_values.specs.declared.error.MakeError.{MakeError}
use Rattle.forms_values.specs.declared.error.MakeError.TheVariants.{OutOfMemory, Wrong}
use Rattle.forms_values.specs.declared.form.Form.{Form}
use Rattle.forms_values.specs.Appended.{Fails}
use Rattle.forms_json.specs.Made.{made_of}
use Rattle.forms_json.specs.Shown.{shown_of}
use Rattle.forms_values.specs.Tables.{Table}
use Rattle.forms_values.specs.Widths.{deepest}
use Rattle.forms_values.proofs.Search.{none_not_some, some_is}
use Rattle.forms_json.proofs.Law.{shown_read}
use Rattle.forms_text.specs.Strict.{json_of}

module _ (table : Table) (f : Form) (bytes : List ℕ) (h : IsBytes bytes) (json : Data) (is : json_of table f bytes ≡ json) where
  again : made_of table f (json_of table f bytes) ≡ Some bytes
  unfolding shown_of made_of
  again = shown_read table deepest [] f bytes h

  stands : made_of table f json ≡ Some bytes
  stands = subst (λ d. made_of table f d ≡ Some bytes) is again

  pub same_bytes : (b : List ℕ) → made_of table f json ≡ Some b → b ≡ bytes
  same_bytes b e = some_is b bytes (sym e ∙ stands)

  pub only_memory : (e : MakeError) → Fails (made_of table f json) e → e ≡ OutOfMemory
  only_memory OutOfMemory fails = refl
  only_memory (Wrong path found wanted) fails = absurd (none_not_some bytes (sym (fails (λ e. cc)) ∙ stands))

pub unless_other : {A B : Type 0} → A ⊎ (B → ⊥) → B → A
unless_other (inl one) is = one
unless_other (inr other) is = absurd (other is)

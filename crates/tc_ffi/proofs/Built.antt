-- What a call builds from JSON, and why it builds nothing.
use Rattle.std.proofs.Common.{◌≡◌, ◌⊎◌, inl, inr, ℕ, List, Option, Some, None, subst}
use Rattle.std.specs.Prelude.{IsSomeAnd, IsUtf8}
use Rattle.serde_json.specs.Data.{Data}
use Rattle.serde_json.specs.Read.{read}
use Rattle.forms_values.specs.declared.form.Form.{Form}
use Rattle.forms_text.specs.Strict.{json_of}
use Rattle.forms_kinds.specs.Table.{tc_tables}
use Rattle.tc_ffi.specs.Calls.{IsPlaced}
use Rattle.tc_ffi.specs.Makes.{IsReadAs, HasNameTwice, Makes, MakesAgain}

-- a value has a property, or doesn't have it
not_both : {X : Type 0} (P : X → Type 0) (o : Option X) → IsSomeAnd o P → IsSomeAnd o (λ x. ¬ P x) → ⊥
not_both P None h k = h
not_both P (Some x) h k = k h

same_json : {X : Type 0} (a b : X) (o : Option X) → o ≡ Some a → o ≡ Some b → a ≡ b
same_json a b o h k = cc (h, k)

module _ (form : Form) (IsWanted : List ℕ → Type 0) (IsMadeOf : Data → List ℕ → Type 0) (text old new : List ℕ) (len status : ℕ) where
  -- none of the bytes that are wanted have the JSON, or memory ran out
  pub none_made : (json : Data) (Failed Rest : Type 0) → IsReadAs text json
      → ((bytes : List ℕ) → IsWanted bytes → json_of tc_tables form bytes ≡ json → Failed)
      → ((status ≡ 16) × ¬ Failed) ⊎ ((status ≡ 11) × Rest) → Makes form IsWanted IsMadeOf text old new len status
  none_made json Failed Rest is_read found (inl s) = inr (inl (s.0, inr (json, is_read, λ bytes wanted same. s.1 (found bytes wanted same))))
  none_made json Failed Rest is_read found (inr s) = inr (inr s.0)

  -- no bytes that are wanted are made of their JSON only if memory ran out
  pub none_again : (json : Data) (Failed Rest : Type 0) → IsReadAs text json
      → ((bytes : List ℕ) → IsWanted bytes → json_of tc_tables form bytes ≡ json → Failed)
      → ((status ≡ 16) × ¬ Failed) ⊎ ((status ≡ 11) × Rest) → MakesAgain form IsWanted text old new len status
  none_again json Failed Rest is_read found (inl s) =
      λ bytes wanted reads. absurd (s.1 (found bytes wanted (same_json _ _ (read text) reads.1 is_read.1)))
  none_again json Failed Rest is_read found (inr s) = λ bytes wanted reads. inr s.0

  -- the bytes that are wanted are made
  pub made_again : (json : Data) (made : List ℕ) → IsReadAs text json
      → ((bytes : List ℕ) → IsWanted bytes → json_of tc_tables form bytes ≡ json → made ≡ bytes)
      → IsPlaced made old new len status → MakesAgain form IsWanted text old new len status
  made_again json made is_read found placed =
      λ bytes wanted reads. inl (subst (λ b. IsPlaced b old new len status)
      (found bytes wanted (same_json _ _ (read text) reads.1 is_read.1)) placed)

  -- a text that isn't read is none that bytes have
  pub not_read_again : ((status ≡ 15) × (IsUtf8 text → read text ≡ None)) ⊎ (((status ≡ 16) × HasNameTwice text) ⊎ (status ≡ 11))
      → MakesAgain form IsWanted text old new len status
  not_read_again (inl s) = λ bytes wanted reads. absurd (cc (s.1 reads.0, reads.1))
  not_read_again (inr (inl s)) = λ bytes wanted reads. absurd (not_both _ _ reads.2 s.1)
  not_read_again (inr (inr s)) = λ bytes wanted reads. inr s

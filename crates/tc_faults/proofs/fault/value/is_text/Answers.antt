use Rattle.std.proofs.Common.{◌≡◌, ℕ, List, Bool, true, false, refl, sym}
use Rattle.std.specs.Str.{IsUtf8, is_utf8}
use Rattle.std.proofs.lemmas.Str.{IsUtf8-from_is_utf8, is_utf8-from_IsUtf8}
use Rattle.tc_faults.proofs.fault.value.is_text.Goals as goal

no-text : (front : List ℕ) → (IsUtf8 front → ⊥) → false ≡ is_utf8 front
no-text front not = go (is_utf8 front) refl
  where
    go : (b : Bool) → is_utf8 front ≡ b → false ≡ b
    go true e = absurd (not (IsUtf8-from_is_utf8 front e))
    go false e = refl

pub returns-in-Ok : goal.returns-in-Ok
returns-in-Ok c = rw (← c.strip_nul.ensures) (sym (is_utf8-from_IsUtf8 _ c.in-Ok.ensures.cases.1))

pub returns-in-Err : goal.returns-in-Err
returns-in-Err c = rw (← c.strip_nul.ensures) (no-text _ c.in-Err.ensures.cases.0)

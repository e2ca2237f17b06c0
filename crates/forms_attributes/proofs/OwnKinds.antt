-- The kind that a frame sets, and the first kind in a list.
use Rattle.std.proofs.Common.{◌≡◌, ℕ, zero, suc, ◌-◌, ◌<◌, true, List, [], Option, Some, None, refl, ap, sym, ◌∙◌, arith, ◌+◌}
use Rattle.std.specs.Prelude.{option_map, unwrap_or}
use Rattle.std.proofs.lemmas.Bool.{cond-true, cond-false, false_from_ne_true}
use Rattle.forms_attributes.specs.Kinds.{kind_text, kind_in, own_kind, own_or}
use Rattle.nla_frames.specs.Value.{strip}
use Rattle.std.specs.Str.{IsUtf8, is_utf8}
use Rattle.std.proofs.lemmas.Str.{IsUtf8-from_is_utf8, is_utf8-from_IsUtf8}
use Rattle.forms_attributes.specs.Frames.{PaddedFrame, after_first, front}

-- a kind's text, as code finds it
pub kind_is : (value front : List ℕ) → front ≡ strip value → IsUtf8 front → Some front ≡ kind_text value
kind_is value front same utf8 =
    ap Some same ∙ sym (cond-true (is_utf8 (strip value)) (Some (strip value)) None (ap is_utf8 (sym same) ∙ is_utf8-from_IsUtf8 front utf8))

pub kind_is_none : (value front : List ℕ) → front ≡ strip value → (IsUtf8 front → ⊥) → None ≡ kind_text value
kind_is_none value front same not =
    sym (cond-false (is_utf8 (strip value)) (Some (strip value)) None
    (false_from_ne_true (is_utf8 (strip value)) (λ e. not (IsUtf8-from_is_utf8 front (ap is_utf8 same ∙ e)))))

-- ---- the own kind

module _ (len i : ℕ) (b left : List ℕ) (before : own_kind len b ≡ own_kind (len - i) left) where
  pub own_end : None ≡ front left → [] ≡ own_kind len b
  own_end none = sym (before ∙ go (len - i))
    where
      go : (n : ℕ) → own_kind n left ≡ []
      go zero = refl
      go (suc n) = ap (λ o. own_or o (own_kind n (after_first left))) (sym none)

  own_step : (c : PaddedFrame) → i < len → Some c ≡ front left → own_kind len b ≡ own_or (Some c) (own_kind (len - (i + 1)) (after_first left))
  own_step c lt found =
      let one_less : len - i ≡ suc (len - (i + 1)) = omega (arith, lt) in
      before ∙ ap (λ n. own_kind n left) one_less ∙ ap (λ o. own_or o (own_kind (len - (i + 1)) (after_first left))) (sym found)

  pub own_here : (c : PaddedFrame) (t : List ℕ) → i < len → Some c ≡ front left → Some t ≡ kind_in true c → t ≡ own_kind len b
  own_here c t lt found sets = sym (own_step c lt found ∙ ap (λ o. unwrap_or o (own_kind (len - (i + 1)) (after_first left))) (sym sets))

  pub own_later : (c : PaddedFrame) (after : List ℕ) → i < len → Some c ≡ front left → None ≡ kind_in true c → after ≡ after_first left
      → own_kind len b ≡ own_kind (len - (i + 1)) after
  own_later c after lt found sets is_after =
      own_step c lt found ∙ ap (λ o. unwrap_or o (own_kind (len - (i + 1)) (after_first left))) (sym sets)
      ∙ ap (own_kind (len - (i + 1))) (sym is_after)

-- the view of None
pub none_wanted : {X : Type 0} (o : Option X) (wanted : Option (List ℕ)) (see : X → List ℕ) → ((x : X) → o ≡ Some x → ⊥) → option_map see o ≡ wanted
    → None ≡ wanted
none_wanted None wanted see h e = e
none_wanted (Some x) wanted see h e = absurd (h x refl)

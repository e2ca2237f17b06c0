-- The NULs at the end of a text, in its bytes.
use Rattle.std.proofs.Common.{◌≡◌, ℕ, ◌≤◌, Bool, true, false, List, [], ◌∷◌, length, take, get_or, cond, eqb, refl, sym, ap, arith}
use Rattle.std.proofs.lemmas.Bool.{eqb-true}
use Rattle.nla_frames.specs.Value.{ends_in_nul, strip}
use Rattle.std.proofs.lemmas.List.{length-take}
use Rattle.std.specs.String.Boundary.{IsSplitPoint}
use Rattle.tc_laws.specs.Loose.{before_text, without_nuls}
use Rattle.tc_laws.proofs.TrailingNuls.{without-none, length-strip}

-- the rest is the front
pub take-without : (text : List ℕ) → take (length (without_nuls text)) text ≡ without_nuls text
take-without [] = refl
take-without (b ∷ text) = go (without_nuls text) (take-without text)
  where
    go : (w : List ℕ) → take (length w) text ≡ w → take (length (before_text b w)) (b ∷ text) ≡ before_text b w
    go [] same = at_end (eqb b 0)
      where
        at_end : (t : Bool) → take (length (cond t [] (b ∷ []))) (b ∷ text) ≡ cond t [] (b ∷ [])
        at_end true = refl
        at_end false = refl
    go (c ∷ w) same = ap (λ (front : List ℕ). b ∷ front) same

-- and after it a NUL, if anything
pub nul-without : (text : List ℕ) → get_or text (length (without_nuls text)) 0 ≡ 0
nul-without [] = refl
nul-without (b ∷ text) = go (without_nuls text) (nul-without text)
  where
    go : (w : List ℕ) → get_or text (length w) 0 ≡ 0 → get_or (b ∷ text) (length (before_text b w)) 0 ≡ 0
    go [] none = at_end (eqb b 0) refl
      where
        at_end : (t : Bool) → eqb b 0 ≡ t → get_or (b ∷ text) (length (cond t [] (b ∷ []))) 0 ≡ 0
        at_end true e = eqb-true b 0 e
        at_end false e = none
    go (c ∷ w) none = none

pub without-length : (text : List ℕ) → length (without_nuls text) ≤ length text
without-length text = omega (arith, ap length (take-without text), length-take (length (without_nuls text)) text)

-- if one NUL less makes no difference, none is at the end
pub without-same : (text : List ℕ) → length text ≤ length (strip text) → text ≡ without_nuls text
without-same text same = go (ends_in_nul text) refl
  where
    go : (t : Bool) → ends_in_nul text ≡ t → text ≡ without_nuls text
    go true e = absurd (omega (arith, same, length-strip text e))
    go false e = sym (without-none text e)

-- a text can be cut before its NULs
pub split-nuls : (text : List ℕ) → IsSplitPoint text (length (without_nuls text))
split-nuls text = (without-length text, λ _ _ high. absurd (omega (arith, high, nul-without text)))

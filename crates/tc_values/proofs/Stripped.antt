-- Texts that don't end in a NUL.
use Rattle.std.proofs.Common.{◌≡◌, ℕ, ◌-◌, Bool, true, false, List, [], ◌∷◌, length, take, cond, refl, arith}
use Rattle.std.proofs.lemmas.List.{length-take}
use Rattle.nla_frames.specs.Value.{strip, ends_in_nul}

-- if stripping keeps the length, it keeps the bytes
pub same_length : (v : List ℕ) → length (strip v) ≡ length v → strip v ≡ v
unfolding strip
same_length v long = go v (ends_in_nul v) refl long
  where
    go : (v : List ℕ) (b : Bool) → ends_in_nul v ≡ b → length (cond b (take (length v - 1) v) v) ≡ length v → cond b (take (length v - 1) v) v ≡ v
    go v false e long = refl
    go [] true e long = absurd (cc e)
    go (x ∷ v) true e long = absurd (omega (arith, length-take (length (x ∷ v) - 1) (x ∷ v)))

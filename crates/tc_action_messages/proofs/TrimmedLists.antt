-- Lists whose elements so far are trimmed.
use Rattle.std.proofs.Common.{◌≡◌, ℕ, suc, ◌+◌, ◌<◌, ◌≤◌, List, [], ◌∷◌, length, map, set, get_or, refl, sym, subst, ap, ap₂, ◌∙◌, arith}
use Rattle.std.specs.List.{flat_map}
use Rattle.tc_laws.specs.Loose.{Part, greater}
use Rattle.tc_laws.proofs.MostNuls.{greater-nothing, nothing-greater, greater-again, most-append}
use Rattle.tc_action_messages.specs.ActionMessageAttribute.{most_nuls}

module _ {Y X : Type 0} (see : Y → X) (change : X → X) (parts : X → List Part) where
  -- the elements before a place are trimmed, the others unchanged; `most` is the longest run of NULs removed
  pub data TrimmedTo : ℕ → List Y → List Y → ℕ → Type 0 where
    none_yet : (ys : List Y) → TrimmedTo 0 ys ys 0
    one_more : (i : ℕ) (old now : List Y) (most : ℕ) (y z : Y) → see z ≡ change (see y) → TrimmedTo i old now most
        → TrimmedTo (suc i) (y ∷ old) (z ∷ now) (greater (most_nuls (parts (see y))) most)

  -- before the first
  pub trim_start : (ys : List Y) → TrimmedTo 0 ys ys 0
  trim_start = none_yet

  next_of : (i : ℕ) (old now : List Y) (most : ℕ) → TrimmedTo i old now most → (y z : Y) → i < length now → y ≡ get_or now i y → see z ≡ change (see y)
      → TrimmedTo (suc i) old (set now i z) (greater most (most_nuls (parts (see y))))
  next_of i old now most (none_yet ys) y z below is trimmed = first ys below is
    where
      first : (ys : List Y) → 0 < length ys → y ≡ get_or ys 0 y → TrimmedTo 1 ys (set ys 0 z) (greater 0 (most_nuls (parts (see y))))
      first [] less same = absurd (omega (arith, less))
      first (x ∷ xs) less same =
          let here = one_more 0 xs xs 0 x z (trimmed ∙ ap (λ (u : Y). change (see u)) same) (none_yet xs) in
          subst (TrimmedTo 1 (x ∷ xs) (z ∷ xs)) (greater-nothing _ ∙ ap (λ (u : Y). most_nuls (parts (see u))) (sym same) ∙ sym (nothing-greater _)) here
  next_of i old now most (one_more j before after some u v changed rest) y z below is trimmed =
      let more = next_of j before after some rest y z (omega (arith, below)) is trimmed in
      subst (TrimmedTo (suc (suc j)) (u ∷ before) (v ∷ set after j z)) (greater-again (most_nuls (parts (see u))) some (most_nuls (parts (see y))))
      (one_more (suc j) before (set after j z) _ u v changed more)

  -- the next element trimmed
  pub trim_next : (i : ℕ) (old now : List Y) (most : ℕ) → TrimmedTo i old now most → (y z : Y) → i < length now → y ≡ get_or now i y → see z ≡ change (see y)
      → TrimmedTo (i + 1) old (set now i z) (greater most (most_nuls (parts (see y))))
  trim_next i old now most to y z below is trimmed =
      subst (λ (n : ℕ). TrimmedTo n old (set now i z) (greater most (most_nuls (parts (see y))))) (omega arith) (next_of i old now most to y z below is trimmed)

  -- after the last
  pub all_trimmed : (i : ℕ) (old now : List Y) (most : ℕ) → TrimmedTo i old now most → length now ≤ i
      → (map see now ≡ map change (map see old)) × (most ≡ most_nuls (flat_map parts (map see old)))
  all_trimmed i old now most (none_yet ys) past = ended ys past
    where
      ended : (ys : List Y) → length ys ≤ 0 → (map see ys ≡ map change (map see ys)) × (0 ≡ most_nuls (flat_map parts (map see ys)))
      ended [] less = (refl, refl)
      ended (y ∷ ys) less = absurd (omega (arith, less))
  all_trimmed i old now most (one_more j before after some u v changed rest) past =
      let others = all_trimmed j before after some rest (omega (arith, past)) in (
        ap₂ (λ (x : X) (xs : List X). x ∷ xs) changed others.0,
        ap (greater (most_nuls (parts (see u)))) others.1 ∙ sym (most-append (parts (see u)) (flat_map parts (map see before))),
      )

-- What is appended, part by part.
use Rattle.std.proofs.Common.{◌≡◌, ℕ, zero, suc, ◌+◌, ◌-◌, ◌/◌, ◌%◌, ◌≤◌, List, [], ◌∷◌, ◌++◌, take, reverse, replicate, Option, Some, Result, Ok, Err}
use Rattle.std.proofs.Common.{refl, subst, sym, ap, ◌∙◌, append_assoc, arith}
use Rattle.std.proofs.lemmas.List.{reverse-append}
use Rattle.nla_frames.specs.Value.{le_bytes, be_bytes}
use Rattle.forms_values.proofs.Search.{none_not_some, some_is}
use Rattle.forms_values.specs.Appended.{Appended}
use Rattle.forms_values.specs.declared.maker.Stop.{Stop}

-- both, concatenated, if both exist
pub then_appended : {T : Type 0} (a b old mid new : List ℕ) (r : Result T Stop) → Some (old ++ a) ≡ Some mid → Appended (Some b) mid new r
    → Appended (Some (a ++ b)) old new r
then_appended a b old mid new (Ok u) first second =
    ap Some (sym (append_assoc old a b)) ∙ ap (λ m. Some (m ++ b)) (some_is (old ++ a) mid first) ∙ second
then_appended a b old mid new (Err e) first second = λ not. absurd (none_not_some b (sym (second not)))

pub appended_as : {T : Type 0} (x y : Option (List ℕ)) (old new : List ℕ) (r : Result T Stop) → x ≡ y → Appended x old new r → Appended y old new r
appended_as x y old new r e h = subst (λ o. Appended o old new r) e h

pub le_step : (w n : ℕ) → (w ≡ 0 → ⊥) → (n % 256 ∷ []) ++ le_bytes (w - 1) (n / 256) ≡ le_bytes w n
le_step zero n full = absurd (full refl)
le_step (suc w) n full = let less : suc w - 1 ≡ w = omega arith in ap (λ k. n % 256 ∷ le_bytes k (n / 256)) less

take_le : (w m n : ℕ) → w ≤ m → take w (le_bytes m n) ≡ le_bytes w n
take_le zero m n h = refl
take_le (suc w) zero n h = absurd (omega (arith, h))
take_le (suc w) (suc m) n h = ap (λ b. n % 256 ∷ b) (take_le w m (n / 256) (omega (arith, h)))

pub put_taken : {T : Type 0} (w n : ℕ) (old new : List ℕ) (r : Result T Stop) → w ≤ 8 → Appended (Some (take w (le_bytes 8 n))) old new r
    → Appended (Some (le_bytes w n)) old new r
put_taken w n old new r h k = appended_as (Some (take w (le_bytes 8 n))) (Some (le_bytes w n)) old new r (ap Some (take_le w 8 n h)) k

pub be_step : (w n : ℕ) → (w ≡ 0 → ⊥) → be_bytes (w - 1) (n / 256) ++ (n % 256 ∷ []) ≡ be_bytes w n
be_step w n full = sym (reverse-append (n % 256 ∷ []) (le_bytes (w - 1) (n / 256))) ∙ ap reverse (le_step w n full)

pub zeros_step : (n : ℕ) → (n ≡ 0 → ⊥) → 0 ∷ replicate {A = ℕ} (n - 1) 0 ≡ replicate {A = ℕ} n 0
zeros_step zero full = absurd (full refl)
zeros_step (suc n) full = let less : suc n - 1 ≡ n = omega arith in ap (λ k. 0 ∷ replicate {A = ℕ} k 0) less

-- Decidable propositions: a test says whether they are true.
use Rattle.std.proofs.Common.{◌≡◌, ℕ, ◌<◌, ◌≤◌, List, [], ◌∷◌, Bool, true, false, refl}
use Rattle.std.proofs.lemmas.Bool.{leb-true, le-leb}
use Rattle.std.proofs.lemmas.Bool.Decides.{Decides-ltb, Decides-eqb}
use Rattle.std.proofs.lemmas.Slice.Eq.{bytes_eq-Decides}
use Rattle.std.specs.Prelude.{IsTrue, ◌↔◌, ◌==◌, nat_le, nat_lt, MatchBool}
use Rattle.std.specs.List.{AllByRecursion}
use Rattle.std.specs.Str.{bytes_eq}

-- a test says whether the proposition is true
abbrev pub Decidable : Type 0 → Type 0
Decidable P = (b : Bool) × (IsTrue b ↔ P)

pub decidable_always : Decidable (Unit {0})
decidable_always = (true, (λ _. tt, λ _. refl))

pub decidable_le : (m n : ℕ) → Decidable (m ≤ n)
decidable_le m n = (nat_le m n, (leb-true m n, le-leb m n))

pub decidable_lt : (m n : ℕ) → Decidable (m < n)
decidable_lt m n = (nat_lt m n, Decides-ltb m n)

pub decidable_eq : (m n : ℕ) → Decidable (m ≡ n)
decidable_eq m n = (m == n, Decides-eqb m n)

pub decidable_never : Decidable ⊥
decidable_never = (false, (λ h. absurd cc, λ h. absurd h))

pub decidable_true : (b : Bool) → Decidable (b ≡ true)
decidable_true true = (true, (λ h. refl, λ h. refl))
decidable_true false = (false, (λ h. absurd cc, λ h. absurd cc))

pub decidable_false : (b : Bool) → Decidable (b ≡ false)
decidable_false true = (false, (λ h. absurd cc, λ h. absurd cc))
decidable_false false = (true, (λ h. refl, λ h. refl))

pub decidable_same_bytes : (this that : List ℕ) → Decidable (this ≡ that)
decidable_same_bytes this that = (bytes_eq this that, bytes_eq-Decides this that)

-- two facts at once
pub decidable_both : {P Q : Type 0} → Decidable P → Decidable Q → Decidable (P × Q)
decidable_both (true, p) (true, q) = (true, (λ h. (p.0 refl, q.0 refl), λ h. refl))
decidable_both (true, p) (false, q) = (false, (λ h. absurd cc, λ h. q.1 h.1))
decidable_both (false, p) q = (false, (λ h. absurd cc, λ h. p.1 h.0))

-- the same fact in other words
pub decidable_as : {P Q : Type 0} → P ↔ Q → Decidable P → Decidable Q
decidable_as same (b, p) = (b, (λ h. same.0 (p.0 h), λ h. p.1 (same.1 h)))

-- of each element
pub decidable_each : {X : Type 0} (P : X → Type 0) → ((x : X) → Decidable (P x)) → (xs : List X) → Decidable (AllByRecursion P xs)
decidable_each P each [] = decidable_always
decidable_each P each (x ∷ xs) = decidable_both (each x) (decidable_each P each xs)

-- one of two, by a test
pub decidable_match : {P Q : Type 0} (b : Bool) → Decidable P → Decidable Q → Decidable (MatchBool b P Q)
decidable_match true p q = p
decidable_match false p q = q

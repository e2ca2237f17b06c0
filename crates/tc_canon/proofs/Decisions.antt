-- The results of some tests.
use Rattle.std.proofs.Common.{◌≡◌, ℕ, ◌-◌, Bool, true, List, [], ◌∷◌, length, take, drop, Result, Ok, Err, MatchResult, ◌↔◌, IsTrue, sym, ap, ◌∙◌, bytes_eq}
use Rattle.std.proofs.Common.{is_ok}
use Rattle.std.specs.Str.{IsUtf8, is_utf8}
use Rattle.std.specs.Cmp.Lexicographic.{bytes_decides}
use Rattle.std.proofs.lemmas.List.{drop-drop}
use Rattle.std.proofs.lemmas.Str.{IsUtf8-from_is_utf8, is_utf8-from_IsUtf8}
use Rattle.tc_canon.specs.Layouts.{stats}
use Rattle.tc_canon.specs.Canonical.{CanonFields}

-- std's reading of a text succeeds exactly where it is one
pub text-decides : {S E : Type 0} (P : S → Type 0) (Q : E → Type 0) (r : Result S E) (b : Bool) (bytes : List ℕ) → b ≡ is_ok r
    → MatchResult r (λ s. P s × IsUtf8 bytes) (λ e. (IsUtf8 bytes → ⊥) × Q e) → IsTrue b ↔ (is_utf8 bytes ≡ true)
text-decides P Q (Ok s) b bytes is cases = (λ t. is_utf8-from_IsUtf8 bytes cases.1, λ u. is)
text-decides P Q (Err e) b bytes is cases = (λ t. absurd cc, λ u. absurd (cases.0 (IsUtf8-from_is_utf8 bytes u)))

-- the last four bytes of statistics are their padding
pub stats-decides : (v : List ℕ) (b : Bool) → length v ≡ 40 → b ≡ bytes_eq (take (length v - 36) (drop 36 v)) (0 ∷ 0 ∷ 0 ∷ 0 ∷ [])
    → IsTrue b ↔ CanonFields stats v
stats-decides v b long is =
    let pad = take 4 (drop 4 (drop 4 (drop 4 (drop 4 (drop 4 (drop 4 (drop 4 (drop 8 v)))))))) in
    let same : take (length v - 36) (drop 36 v) ≡ pad = rw long (simp drop-drop) in
    let d = bytes_decides pad (0 ∷ 0 ∷ 0 ∷ 0 ∷ []) in
    let test : b ≡ bytes_eq pad (0 ∷ 0 ∷ 0 ∷ 0 ∷ []) = is ∙ ap (λ (x : List ℕ). bytes_eq x (0 ∷ 0 ∷ 0 ∷ 0 ∷ [])) same in
    (λ t. (long, (d.0 (sym test ∙ t), tt)), λ p. test ∙ d.1 p.1.0)

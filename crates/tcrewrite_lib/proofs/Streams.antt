-- What was taken of a reader, piece by piece.
use Rattle.std.proofs.Common.{◌≡◌, ℕ, ◌≤◌, ◌⊎◌, inl, inr, List, ◌++◌, length, None, Some, sym, ap, ◌∙◌, subst, append-nil, arith}
use Rattle.std.proofs.lemmas.List.{take_all, take-append-le}
use Rattle.std.proofs.KnownBytes.{Consumes-trans, starts_with_rest}
use Rattle.std.specs.Prelude.{Option}
use Rattle.std.specs.Io.{StartsWith, appended_bytes}
use Rattle.std.specs.Io.KnownBytes.{Consumes, IsAtEnd}
use Rattle.tcrewrite_lib.specs.Text.{looked_at}
use Rattle.tcrewrite_lib.specs.Run.{IsTextOf}

-- a text that grew by what was taken next is all that was taken
pub Consumes-next : (a b c : Option (List ℕ)) (old new : List ℕ) → Consumes a b old → StartsWith new old → Consumes b c (appended_bytes old new)
    → Consumes a c new
Consumes-next a b c old new first grown next =
    let P : List ℕ → Type 0 = λ l. Consumes a c l in
    subst P (sym (starts_with_rest new old grown)) (Consumes-trans a b c old (appended_bytes old new) first next)

-- a text as long as what is looked at
looked_at-full : (text ys : List ℕ) → length text ≡ 1048577 → text ≡ looked_at (text ++ ys)
looked_at-full text ys full =
    let fits : 1048577 ≤ length text = omega arith in
    let bound : length text ≤ 1048577 = omega arith in
    sym (take-append-le 1048577 text ys fits ∙ take_all 1048577 text bound)

-- what was taken up to the reader's end, or up to the limit, is the text
pub IsTextOf-taken : (a b : Option (List ℕ)) (text : List ℕ) → Consumes a b text → length text ≤ 1048577 → (length text ≡ 1048577) ⊎ IsAtEnd b
    → IsTextOf a b text
IsTextOf-taken None b text taken bound ended = tt
IsTextOf-taken (Some xs) None text taken bound ended = absurd taken
IsTextOf-taken (Some xs) (Some ys) text taken bound (inl full) = (looked_at-full text ys full ∙ ap looked_at (sym taken), taken)
IsTextOf-taken (Some xs) (Some ys) text taken bound (inr none) =
    let all : xs ≡ text = taken ∙ ap (λ l. text ++ l) none ∙ append-nil text in
    (sym (take_all 1048577 text bound) ∙ ap looked_at (sym all), taken)

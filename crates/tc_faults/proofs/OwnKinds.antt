-- Counting the kinds of an action: none, one, or several.
use Rattle.std.proofs.Common.{◌≡◌, ℕ, List, [], ◌∷◌, Option, Some, Ok, Err, Bool, true, false, refl, ap, ◌∙◌}
use Rattle.std.specs.Prelude.{if◌then◌else◌, ◌==◌}
use Rattle.std.specs.Str.{is_utf8}
use Rattle.nla_frames.specs.declared.error.DecodeError.{DecodeError}
use Rattle.nla_frames.specs.declared.error.DecodeError.TheVariants.{NotUtf8}
use Rattle.nla_frames.specs.Fault.{Outcome, seen, ◌>>=◌}
use Rattle.nla_frames.specs.Frame.{Frame, type_of}
use Rattle.nla_frames.specs.Value.{strip}
use Rattle.tc_meaning.specs.Own.{read_kinds, only_kind}
use Rattle.tc_faults.specs.Fault.{fault_of, one_more, count_error}

-- the fault after a number of kinds
abbrev pub error_after : ℕ → List (Outcome Frame) → Option DecodeError
error_after n [] = count_error n
error_after n (Err e ∷ items) = Some e
error_after n (Ok f ∷ items) =
    if type_of f.word == 1 then (if is_utf8 (strip f.value) then error_after (one_more n) items else Some NotUtf8) else error_after n items

abbrev counted : ℕ → List (List ℕ) → ℕ
counted n [] = n
counted n (k ∷ ks) = counted (one_more n) ks

abbrev kinds_error : ℕ → Outcome (List (List ℕ)) → Option DecodeError
kinds_error n (Ok ks) = count_error (counted n ks)
kinds_error n (Err e) = Some e

several : (ks : List (List ℕ)) → counted 2 ks ≡ 2
several [] = refl
several (k ∷ ks) = several ks

-- one more kind in front
kind-more : (n : ℕ) (k : List ℕ) (r : Outcome (List (List ℕ))) → kinds_error (one_more n) r ≡ kinds_error n (seen (λ ks. k ∷ ks) r)
kind-more n k (Ok ks) = refl
kind-more n k (Err e) = refl

kinds-is : (n : ℕ) (items : List (Outcome Frame)) → error_after n items ≡ kinds_error n (read_kinds items)
unfolding read_kinds
kinds-is n [] = refl
kinds-is n (Err e ∷ items) = refl
kinds-is n (Ok f ∷ items) = go (type_of f.word == 1) (is_utf8 (strip f.value)) (kinds-is n items) (kinds-is (one_more n) items)
  where
    go : (a b : Bool) → error_after n items ≡ kinds_error n (read_kinds items) → error_after (one_more n) items ≡ kinds_error (one_more n) (read_kinds items)
        → (if a then (if b then error_after (one_more n) items else Some NotUtf8) else error_after n items)
        ≡ kinds_error n (if a then ((if b then Ok (strip f.value) else Err NotUtf8) >>= λ kind. seen (λ ks. kind ∷ ks) (read_kinds items))
        else read_kinds items)
    go false b same more = same
    go true false same more = refl
    go true true same more = more ∙ kind-more n (strip f.value) (read_kinds items)

only-is : (r : Outcome (List (List ℕ))) → kinds_error 0 r ≡ fault_of (r >>= only_kind)
only-is (Err e) = refl
only-is (Ok []) = refl
only-is (Ok (k ∷ [])) = refl
only-is (Ok (k ∷ l ∷ ks)) = ap count_error (several ks)

-- so the fault is that of `only_kind`
pub error_after_is : (items : List (Outcome Frame)) → error_after 0 items ≡ fault_of (read_kinds items >>= only_kind)
error_after_is items = kinds-is 0 items ∙ only-is (read_kinds items)

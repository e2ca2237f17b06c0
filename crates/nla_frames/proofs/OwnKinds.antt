-- The one kind that a list sets itself.
use Rattle.std.proofs.Common.{Bool, IsTrue, get_or, ◌≡◌, ◌↔◌, ℕ, ◌+◌, List, [], ◌∷◌, ◌++◌, map, take, Option, Some, None, refl, sym, ap, subst, ◌∙◌}
use Rattle.std.specs.List.{AllByRecursion}
use Rattle.std.proofs.lemmas.Grind.{take_at_read}
use Rattle.nla_frames.specs.Place.{Sets, kind_before, kinds_set}
use Rattle.nla_frames.specs.Reading.{keep}
use Rattle.nla_frames.specs.Codec.{SettledEach}
use Rattle.nla_frames.specs.OnlyKind.{Summarizes, SettledUnderOwn}
use Rattle.nla_frames.specs.declared.only_kind.OnlyKind.{OnlyKind}
use Rattle.nla_frames.proofs.ListWriting.{IsAt}

-- the kinds that the elements set are those that are seen of them
pub kinds_set-map : {Y X : Type 0} (see : Y → X) (sets : Sets X) (items : List Y) → kinds_set sets (map see items) ≡ kinds_set (λ y. sets (see y)) items
kinds_set-map see sets [] = refl
kinds_set-map see sets (y ∷ items) = ap (kind_before (sets (see y))) (kinds_set-map see sets items)

-- of one list after another
pub kinds_set-append : {Y : Type 0} (sets : Sets Y) (front : List Y) (y : Y)
    → kinds_set sets (front ++ y ∷ []) ≡ kinds_set sets front ++ kind_before (sets y) []
kinds_set-append sets [] y = refl
kinds_set-append sets (x ∷ front) y = ap (kind_before (sets x)) (kinds_set-append sets front y) ∙ before_append (sets x) (kinds_set sets front)
  where
    before_append : (set : Option (List ℕ)) (kinds : List (List ℕ))
        → kind_before set (kinds ++ kind_before (sets y) []) ≡ kind_before set kinds ++ kind_before (sets y) []
    before_append None kinds = refl
    before_append (Some kind) kinds = refl

module _ {Y : Type 0} (sets : Sets Y) (items : List Y) where
  -- one element on
  pub tells_next : (only next : OnlyKind) (i : ℕ) (item : Y) → IsAt items i item → Summarizes only (kinds_set sets (take i items))
      → ((kinds : List (List ℕ)) → Summarizes only kinds → Summarizes next (kinds ++ kind_before (sets item) [])) → Summarizes next (kinds_set sets (take (i + 1) items))
  tells_next only next i item here told and_summarizes =
      let more = (take_at_read items i item here.within).1 in
      let again : take (i + 1) items ≡ take i items ++ item ∷ [] = more ∙ ap (λ y. take i items ++ y ∷ []) (sym here.is) in
      subst (Summarizes next) (sym (ap (kinds_set sets) again ∙ kinds_set-append sets (take i items) item)) (and_summarizes _ told)

-- under one kind that nothing changes, each element is settled under it
pub settled_keeping : {X : Type 0} (Settled : List ℕ → X → Type 0) (kind : List ℕ) (xs : List X)
    → SettledEach Settled keep kind xs ≡ AllByRecursion (Settled kind) xs
settled_keeping Settled kind [] = refl
settled_keeping Settled kind (x ∷ xs) = ap (λ rest. Settled kind x × rest) (settled_keeping Settled kind xs)

-- where the list sets one kind, it is settled exactly when each element is settled under that one
pub settled_own : {Y X : Type 0} (see : Y → X) (Settled : List ℕ → X → Type 0) (sets : Sets Y) (items : List Y) (kind : List ℕ) (is_settled : Bool)
    → kinds_set sets items ≡ kind ∷ [] → IsTrue is_settled ↔ SettledEach Settled keep kind (map see items)
    → IsTrue is_settled ↔ SettledUnderOwn see Settled sets items
settled_own see Settled sets items kind is_settled told is = (
  λ yes. (kind, told, subst (λ t. t) (settled_keeping Settled kind (map see items)) (is.0 yes)),
  λ own. is.1 (subst (λ t. t) (sym (settled_keeping Settled kind (map see items)))
      (subst (λ k. AllByRecursion (Settled k) (map see items)) (same own.0 own.1) own.2)),
)
  where
    same : (k : List ℕ) → kinds_set sets items ≡ k ∷ [] → k ≡ kind
    same k is_k = ap (λ (kinds : List (List ℕ)). get_or kinds 0 []) (sym is_k ∙ told)

-- Nothing is made or changed before the change of what it needs.
use Rattle.std.proofs.Common.{◌≡◌, Bool, true, false, not, ◌||◌, List, [], ◌∷◌, ◌++◌, Option, Some, None, map, refl, ap, ◌∙◌}
use Rattle.std.specs.List.{list_any, AllByRecursion}
use Rattle.std.proofs.lemmas.List.Folds.{list_any-append}
use Rattle.tc_changes.specs.Model.{Thing, needs, among, found, is_next, ready}
use Rattle.tc_changes.specs.Requests.{Request, Change, Delete}
use Rattle.tc_changes.specs.Plans.{changes, IsPlaced}
use Rattle.tc_changes.specs.Planned.{asked, kept, request_of, makes, planned}
use Rattle.tc_changes.proofs.Lookups.{and_left, and_right, or_right, all_by, none_among}
use Rattle.tc_changes.proofs.Unrelated.{pick}
use Rattle.tc_changes.proofs.Fronts.{rest_fresh}

module _ {K C : Type 0} (eq : K → K → Bool) (sound : (a b : K) → eq a b ≡ true → a ≡ b) (same : (a : K) → eq a a ≡ true)
    (alike : Thing K C → Thing K C → Bool) where
  -- objects that aren't among some keys have no change of one of these
  no_change : (stay : List (Thing K C)) (ns : List K) (rest : List (Thing K C)) → AllByRecursion (λ q. among eq ns q.key ≡ false) rest
      → list_any (changes eq ns) (makes eq alike stay rest) ≡ false
  no_change stay ns [] all = refl
  no_change stay ns (q ∷ rest) all =
      list_any-append (changes eq ns) (request_of eq alike q (found eq stay q.key)) (makes eq alike stay rest)
      ∙ ap (λ b. b || list_any (changes eq ns) (makes eq alike stay rest)) (one (found eq stay q.key)) ∙ no_change stay ns rest all.1
    where
      one : (f : Option (Thing K C)) → list_any (changes eq ns) (request_of eq alike q f) ≡ false
      one None = refl
      one (Some o) = pick (λ l. list_any (changes eq ns) l ≡ false) (alike o q) [] (Change q ∷ []) (λ _. refl) (λ _. ap (λ b. b || false) all.0)

  placed_makes : (stay : List (Thing K C)) (before : List K) (rest : List (Thing K C)) → ready eq before rest ≡ true → IsPlaced eq (makes eq alike stay rest)
  placed_makes stay before [] is = tt
  placed_makes stay before (w ∷ rest) is =
      one (placed_makes stay (w.key ∷ before) rest (and_right (is_next eq before w) _ is)) (found eq stay w.key)
    where
      free : list_any (changes eq (needs w)) (makes eq alike stay rest) ≡ false
      free = no_change stay (needs w) rest
          (all_by (λ q. among eq (w.key ∷ before) q.key ≡ false) (λ q. among eq (needs w) q.key ≡ false)
          (λ q fresh. none_among eq sound same before q.key (needs w) (or_right (eq q.key w.key) _ fresh)
          (and_right (not (among eq before w.key)) _ (and_left (is_next eq before w) _ is))) rest
          (rest_fresh eq sound same (w.key ∷ before) rest (and_right (is_next eq before w) _ is)))

      one : IsPlaced eq (makes eq alike stay rest) → (f : Option (Thing K C)) → IsPlaced eq (request_of eq alike w f ++ makes eq alike stay rest)
      one more None = (free, more)
      one more (Some o) = pick (λ l. IsPlaced eq (l ++ makes eq alike stay rest)) (alike o w) [] (Change w ∷ []) (λ _. more) (λ _. (free, more))

  placed_deletes : (keys : List K) (rs : List (Request K C)) → IsPlaced eq rs → IsPlaced eq (map Delete keys ++ rs)
  placed_deletes [] rs is = is
  placed_deletes (k ∷ keys) rs is = placed_deletes keys rs is

  pub plan_placed : (weak gone : K → Bool) (state want : List (Thing K C)) → ready eq [] want ≡ true
      → IsPlaced eq (planned eq alike weak gone state want)
  plan_placed weak gone state want wanted =
      let stay = kept eq weak gone state in
      placed_deletes (asked eq weak gone [] state) (makes eq alike stay want) (placed_makes stay [] want wanted)

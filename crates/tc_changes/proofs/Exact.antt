-- Each request of a plan is about an object of either state, and no two do the same.
use Rattle.std.proofs.Common.{◌≡◌, Bool, true, false, cond, List, [], ◌∷◌, ◌++◌, Option, Some, None, map, refl, sym, ap, ◌∙◌}
use Rattle.std.specs.Prelude.{is_some}
use Rattle.std.specs.List.{list_all, AllByRecursion, IsDistinct}
use Rattle.tc_changes.specs.Model.{Thing, found, has, is_next, ready}
use Rattle.tc_changes.specs.Requests.{Request, Make, Change, Delete}
use Rattle.tc_changes.specs.Plans.{key_of, is_repeated, IsAbout, IsConfined}
use Rattle.tc_changes.specs.Planned.{remover, remover_of, add, is_along, kept, asked, request_of, makes, planned}
use Rattle.tc_changes.proofs.Lookups.{and_right, all_append, all_by, all_passes, passes_all, differ, found-filter}
use Rattle.tc_changes.proofs.Unrelated.{pick, ready_rest}
use Rattle.tc_changes.proofs.Makes.{found_in}
use Rattle.tc_changes.proofs.Keeps.{all_found}

module _ {X : Type 0} (eq : X → X → Bool) where
  -- lists without repetitions, one after another
  distinct_append : (xs ys : List X) → IsDistinct eq xs → IsDistinct eq ys → AllByRecursion (λ x. AllByRecursion (λ y. eq x y ≡ false) ys) xs
      → IsDistinct eq (xs ++ ys)
  unfolding IsDistinct
  distinct_append [] ys one two across = two
  distinct_append (x ∷ xs) ys one two across = (all_append (λ y. eq x y ≡ false) xs ys one.0 across.0, distinct_append xs ys one.1 two across.1)

all_map : {X Y : Type 0} (f : X → Y) (P : Y → Type 0) (xs : List X) → AllByRecursion (λ x. P (f x)) xs → AllByRecursion P (map f xs)
all_map f P [] all = tt
all_map f P (x ∷ xs) all = (all.0, all_map f P xs all.1)

module _ {K C : Type 0} (eq : K → K → Bool) (sound : (a b : K) → eq a b ≡ true → a ≡ b) (same : (a : K) → eq a a ≡ true)
    (alike takes : Thing K C → Thing K C → Bool) (alike_is : (a b : Thing K C) → alike a b ≡ true → a ≡ b)
    (alike_same : (a : Thing K C) → alike a a ≡ true) where
  -- what comes after an object in order has another key
  rest_distinct : (before : List K) (o : Thing K C) (rest : List (Thing K C)) → ready eq before (o ∷ rest) ≡ true
      → AllByRecursion (λ p. eq o.key p.key ≡ false) rest
  rest_distinct before o rest is = ready_rest eq sound same before [] o rest is

  module _ (weak gone : K → Bool) where
    -- what is true for the keys of objects is true for those that are asked for
    all_asked : (P : K → Type 0) (removed : List (K × K)) (state : List (Thing K C)) → AllByRecursion (λ o. P o.key) state
        → AllByRecursion P (asked eq weak gone removed state)
    all_asked P removed [] all = tt
    all_asked P removed (o ∷ state) all =
        pick (AllByRecursion P) (gone o.key) _ _
        (λ away. all_append P (asked eq weak gone (add eq weak removed o) state) (cond (is_along eq weak gone o (remover_of eq weak (remover eq removed) o)) [] (o.key ∷ []))
        (all_asked P (add eq weak removed o) state all.1)
        (pick (AllByRecursion P) (is_along eq weak gone o (remover_of eq weak (remover eq removed) o)) [] (o.key ∷ []) (λ _. tt) (λ _. (all.0, tt))))
        (λ stays. all_asked P removed state all.1)

    -- no key is asked for twice
    once_asked : (before : List K) (removed : List (K × K)) (state : List (Thing K C)) → ready eq before state ≡ true
        → IsDistinct eq (asked eq weak gone removed state)
    unfolding IsDistinct
    once_asked before removed [] is = tt
    once_asked before removed (o ∷ state) is =
        let rest = and_right (is_next eq before o) _ is in
        pick (IsDistinct eq) (gone o.key) _ _
        (λ away. pick (λ l. IsDistinct eq (asked eq weak gone (add eq weak removed o) state ++ l)) (is_along eq weak gone o (remover_of eq weak (remover eq removed) o)) [] (o.key ∷ [])
        (λ _. distinct_append eq (asked eq weak gone (add eq weak removed o) state) [] (once_asked (o.key ∷ before) (add eq weak removed o) state rest) tt
        (all_asked (λ k. AllByRecursion (λ y. eq k y ≡ false) []) (add eq weak removed o) state (all_by (λ p. eq o.key p.key
        ≡ false) (λ p. Unit {0}) (λ p _. tt) state (rest_distinct before o state is))))
        (λ _. distinct_append eq (asked eq weak gone (add eq weak removed o) state) (o.key ∷ []) (once_asked (o.key ∷ before) (add eq weak removed o) state rest) (tt, tt)
        (all_asked (λ k. AllByRecursion (λ y. eq k y ≡ false) (o.key ∷ [])) (add eq weak removed o) state
        (all_by (λ p. eq o.key p.key
        ≡ false) (λ p. AllByRecursion (λ y. eq p.key y ≡ false) (o.key ∷ [])) (λ p other.
        (differ eq sound same o.key p.key other, tt)) state (rest_distinct before o state is)))))
        (λ stays. once_asked (o.key ∷ before) removed state rest)

    module _ (stay : List (Thing K C)) where
      -- what is true for what each wanted object needs is true for all that is made or changed
      all_makes : (P : Request K C → Type 0) (rest : List (Thing K C))
          → AllByRecursion (λ w. P (Make w) × ((o : Thing K C) → found eq stay w.key ≡ Some o → P (Change w))) rest
          → AllByRecursion P (makes eq alike stay rest)
      all_makes P [] all = tt
      all_makes P (w ∷ rest) all =
          all_append P (request_of eq alike w (found eq stay w.key)) (makes eq alike stay rest) (one (found eq stay w.key) refl) (all_makes P rest all.1)
        where
          one : (q : Option (Thing K C)) → found eq stay w.key ≡ q → AllByRecursion P (request_of eq alike w q)
          one None there = (all.0.0, tt)
          one (Some o) there = pick (AllByRecursion P) (alike o w) [] (Change w ∷ []) (λ _. tt) (λ _. (all.0.1 o there, tt))

      -- nothing is made or changed twice
      once_makes : (before : List K) (rest : List (Thing K C)) → ready eq before rest ≡ true → IsDistinct (is_repeated eq) (makes eq alike stay rest)
      unfolding IsDistinct
      once_makes before [] is = tt
      once_makes before (w ∷ rest) is =
          distinct_append (is_repeated eq) (request_of eq alike w (found eq stay w.key)) (makes eq alike stay rest) (one (found eq stay w.key))
          (once_makes (w.key ∷ before) rest (and_right (is_next eq before w) _ is)) (others (found eq stay w.key))
        where
          one : (q : Option (Thing K C)) → IsDistinct (is_repeated eq) (request_of eq alike w q)
          one None = (tt, tt)
          one (Some o) = pick (IsDistinct (is_repeated eq)) (alike o w) [] (Change w ∷ []) (λ _. tt) (λ _. (tt, tt))

          others : (q : Option (Thing K C))
              → AllByRecursion (λ r. AllByRecursion (λ s. is_repeated eq r s ≡ false) (makes eq alike stay rest)) (request_of eq alike w q)
          others None = (
            all_makes (λ s. is_repeated eq (Make w) s ≡ false) rest
                (all_by (λ p. eq w.key p.key ≡ false) (λ p. (eq w.key p.key ≡ false)
                × ((o : Thing K C) → found eq stay p.key ≡ Some o → eq w.key p.key ≡ false)) (λ p other. (other, λ o _. other)) rest
                (rest_distinct before w rest is)),
            tt,
          )
          others (Some o) = pick (AllByRecursion (λ r. AllByRecursion (λ s. is_repeated eq r s ≡ false) (makes eq alike stay rest))) (alike o w) []
              (Change w ∷ []) (λ _. tt)
              (λ _. (
                all_makes (λ s. is_repeated eq (Change w) s ≡ false) rest
                    (all_by (λ p. eq w.key p.key ≡ false) (λ p. (eq w.key p.key ≡ false)
                    × ((o : Thing K C) → found eq stay p.key ≡ Some o → eq w.key p.key ≡ false)) (λ p other. (other, λ o _. other)) rest
                    (rest_distinct before w rest is)),
                tt,
              ))

  module _ (weak gone : K → Bool) (state want : List (Thing K C)) (order : ready eq [] state ≡ true) (wanted : ready eq [] want ≡ true) where
    abbrev stay : List (Thing K C)
    stay = kept eq weak gone state

    abbrev keys : List K
    keys = asked eq weak gone [] state

    -- what stays was there
    was_there : (k : K) (o : Thing K C) → found eq stay k ≡ Some o → has eq state k ≡ true
    was_there k o there = by_gone (gone k) (sym (found-filter eq sound gone state k) ∙ there)
      where
        by_gone : (b : Bool) → cond b None (found eq state k) ≡ Some o → has eq state k ≡ true
        by_gone true at = absurd (cc at)
        by_gone false at = ap is_some at

    pub plan_about : AllByRecursion (IsAbout eq state want) (planned eq alike weak gone state want)
    plan_about =
        all_append (IsAbout eq state want) (map Delete keys) (makes eq alike stay want)
        (all_map Delete (IsAbout eq state want) keys
        (all_asked weak gone (λ k. has eq state k ≡ true) [] state
        (all_by (λ o. found eq state o.key ≡ Some o) (λ o. has eq state o.key
        ≡ true) (λ o is. ap is_some is) state (all_found eq sound same alike takes alike_is [] state state refl order))))
        (all_makes weak gone stay (IsAbout eq state want) want
        (all_by (λ w. found eq want w.key ≡ Some w) (λ w. (found eq want w.key ≡ Some w)
        × ((o : Thing K C) → found eq stay w.key ≡ Some o → (found eq want w.key ≡ Some w) × (has eq state w.key ≡ true)))
        (λ w is. (is, λ o there. (is, was_there w.key o there))) want (all_found eq sound same alike takes alike_is [] want want refl wanted)))

    -- deletes differ as their keys do
    distinct_deletes : (ks : List K) → IsDistinct eq ks → IsDistinct (is_repeated {C = C} eq) (map Delete ks)
    unfolding IsDistinct
    distinct_deletes [] is = tt
    distinct_deletes (k ∷ ks) is = (all_map Delete (λ r. is_repeated eq (Delete k) r ≡ false) ks is.0, distinct_deletes ks is.1)

    no_delete : (ks : List K) → AllByRecursion (λ r. AllByRecursion (λ s. is_repeated eq r s ≡ false) (makes eq alike stay want)) (map Delete ks)
    no_delete [] = tt
    no_delete (k ∷ ks) = (all_makes weak gone stay (λ s. is_repeated eq (Delete k) s ≡ false) want (none want), no_delete ks)
      where
        none : (rest : List (Thing K C)) → AllByRecursion (λ w. (false ≡ false) × ((o : Thing K C) → found eq stay w.key ≡ Some o → false ≡ false)) rest
        none [] = tt
        none (w ∷ rest) = ((refl, λ o _. refl), none rest)

    pub plan_once : IsDistinct (is_repeated eq) (planned eq alike weak gone state want)
    plan_once = distinct_append (is_repeated eq) (map Delete keys) (makes eq alike stay want) (distinct_deletes keys (once_asked weak gone [] [] state order))
        (once_makes weak gone stay [] want wanted) (no_delete keys)

some_of : {X : Type 0} (q : Option X) → is_some q ≡ true → (x : X) × (q ≡ Some x)
some_of (Some x) is = (x, refl)
some_of None is = absurd (cc is)

module _ {K C : Type 0} (eq : K → K → Bool) (sound : (a b : K) → eq a b ≡ true → a ≡ b) where
  -- requests about objects of either state are about keys that pass what theirs pass
  pub confined : (state want : List (Thing K C)) (requests : List (Request K C)) → AllByRecursion (IsAbout eq state want) requests
      → IsConfined state want requests
  confined state want requests about test here there =
      passes_all (λ r. test (key_of r)) requests (all_by (IsAbout eq state want) (λ r. test (key_of r) ≡ true) one requests about)
    where
      key_passes : (s : List (Thing K C)) → list_all (λ o. test o.key) s ≡ true → (k : K) (o : Thing K C) → found eq s k ≡ Some o → test k ≡ true
      key_passes s all k o is =
          let at = found_in eq (λ p. test p.key ≡ true) s k o (all_passes (λ p. test p.key) s all) is in
          ap test (sound k o.key at.1) ∙ at.0

      one : (r : Request K C) → IsAbout eq state want r → test (key_of r) ≡ true
      one (Delete k) is = let o = some_of (found eq state k) is in key_passes state here k o.0 o.1
      one (Make o) is = key_passes want there o.key o is
      one (Change o) is = key_passes want there o.key o is.0

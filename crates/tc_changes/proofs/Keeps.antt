-- What a plan leaves alone.
use Rattle.std.proofs.Common.{◌≡◌, Bool, true, false, not, cond, ◌&&◌, ◌||◌, List, [], ◌∷◌, ◌++◌, Option, Some, None, map, refl, sym, ap, subst, ◌∙◌}
use Rattle.std.proofs.Common.{append_assoc, append-nil}
use Rattle.std.specs.Prelude.{is_some}
use Rattle.std.specs.List.{list_any, AllByRecursion}
use Rattle.std.proofs.lemmas.List.Folds.{list_any-append}
use Rattle.std.proofs.lemmas.Grind.{flat_map-append}
use Rattle.tc_changes.specs.Model.{Thing, needs, among, found, has, ready, Same}
use Rattle.tc_changes.specs.Requests.{Change, Delete, holds, settled}
use Rattle.tc_changes.specs.Plans.{fits, key_of, deletes, barred_by, barred_keys, IsUntouched, StayTogether, Stays, IsLeftAlone, IsSpared, IsBarred}
use Rattle.tc_changes.specs.Planned.{remover, remover_of, add, goes, held, is_along, stays_by, kept, asked, request_of, makes, planned, IsLost}
use Rattle.tc_changes.proofs.Lookups.{by_cases, either, or_either, or_left, or_right, and_two, and_right, all_append, all_by, any_one, any_found, at_found}
use Rattle.tc_changes.proofs.Lookups.{is_false, not_true, refuted, all_each, none_each, found-filter}
use Rattle.tc_changes.proofs.Unrelated.{pick}
use Rattle.tc_changes.proofs.Makes.{found_self, found_in}
use Rattle.tc_changes.proofs.Fronts.{weak_held, needs_in}
use Rattle.tc_changes.proofs.Wholes.{passed, passed_has}
use Rattle.tc_changes.proofs.Drops.{filter_true}

module _ {K C : Type 0} (eq : K → K → Bool) (sound : (a b : K) → eq a b ≡ true → a ≡ b) (same : (a : K) → eq a a ≡ true)
    (alike takes : Thing K C → Thing K C → Bool) (alike_is : (a b : Thing K C) → alike a b ≡ true → a ≡ b) where
  abbrev fit : Thing K C → Thing K C → Bool
  fit = fits alike takes

  -- each object in order is what is found by its key
  pub all_found : (front rest all : List (Thing K C)) → front ++ rest ≡ all → ready eq [] all ≡ true → AllByRecursion (λ o. found eq all o.key ≡ Some o) rest
  all_found front [] all is order = tt
  all_found front (o ∷ rest) all is order = (
    ap (λ l. found eq l o.key) (sym is) ∙ found_self eq sound same alike takes alike_is front o rest (ap (ready eq []) is ∙ order),
    all_found (front ++ o ∷ []) rest all (append_assoc front (o ∷ []) rest ∙ is) order,
  )

module _ {K C : Type 0} (eq : K → K → Bool) (sound : (a b : K) → eq a b ≡ true → a ≡ b) (same : (a : K) → eq a a ≡ true)
    (alike takes : Thing K C → Thing K C → Bool) (alike_is : (a b : Thing K C) → alike a b ≡ true → a ≡ b)
    (alike_same : (a : Thing K C) → alike a a ≡ true) where
  abbrev fit_of : Thing K C → Thing K C → Bool
  fit_of = fits alike takes

  no_request : (w : Thing K C) (q : Option (Thing K C)) → q ≡ Some w → request_of eq alike w q ≡ []
  no_request w q is = ap (request_of eq alike w) is ∙ ap (λ b. cond b [] (Change w ∷ [])) (alike_same w)

  none_made : (stay want : List (Thing K C)) → AllByRecursion (λ w. found eq stay w.key ≡ Some w) want → makes eq alike stay want ≡ []
  none_made stay [] all = refl
  none_made stay (w ∷ want) all = ap (λ l. l ++ makes eq alike stay want) (no_request w (found eq stay w.key) all.0) ∙ none_made stay want all.1

  all_same : (a b : List (Thing K C)) → Same eq a b → (s : List (Thing K C)) → AllByRecursion (λ o. found eq a o.key ≡ Some o) s
      → AllByRecursion (λ o. found eq b o.key ≡ Some o) s
  all_same a b is [] all = tt
  all_same a b is (o ∷ s) all = (sym (is o.key) ∙ all.0, all_same a b is s all.1)

  module _ (weak : K → Bool) where
    none_asked : (gone : K → Bool) (removed : List (K × K)) (rest : List (Thing K C)) → AllByRecursion (λ o. gone o.key ≡ false) rest
        → asked eq weak gone removed rest ≡ []
    none_asked gone removed [] all = refl
    none_asked gone removed (o ∷ rest) all =
        ap (λ b. cond b (asked eq weak gone (add eq weak removed o) rest ++ cond (is_along eq weak gone o (remover_of eq weak (remover eq removed) o)) []
        (o.key ∷ [])) (asked eq weak gone removed rest)) all.0
        ∙ none_asked gone removed rest all.1

    -- all objects of a state stay together, if they are wanted as they are
    all_together : (state want : List (Thing K C)) → ready eq [] state ≡ true → settled eq weak state [] state ≡ true → Same eq state want
        → StayTogether eq weak fit_of state want (has eq state)
    all_together state want order is_set is k there =
        let o = is_there_ (found eq state k) there in
        let here = all_found eq sound same alike takes alike_is [] state state refl order in
        let in_all = at_found eq sound (λ o. among eq (passed [] state) o.key ≡ true → (n : K) → among eq (needs o) n ≡ true
        → among eq (passed [] state) n ≡ true) state k o.0
        (needs_in eq sound same weak state state [] (append-nil state) order is_set) o.1 in
        let held_by = at_found eq sound (λ o. weak o.key ≡ true → ((n : K) → among eq (needs o) n ≡ true → ⊥) × (list_any (holds eq o.key) state ≡ true))
        state k o.0 (weak_held eq sound same weak state [] state is_set) o.1 in (
          o.0,
          o.0,
          o.1,
          sym (is k) ∙ o.1,
          ap (λ b. b || takes o.0 o.0) (alike_same o.0),
          all_each eq sound same (has eq state) (needs o.0) (λ n need. sym (passed_has eq [] state n)
              ∙ in_all.0 (passed_has eq [] state o.0.key ∙ ap (has eq state) (sym in_all.1) ∙ ap is_some o.1) n need),
          (λ w.
              let h = any_one (holds eq o.0.key) (λ h. found eq state h.key ≡ Some h) state here
              (held_by.0 (ap weak (sym held_by.1) ∙ w)).1 in
              any_found eq sound (λ p. holds eq k p && has eq state p.key) state h.0.key h.0 h.2
              (and_two (holds eq k h.0) _ (ap (λ x. holds eq x h.0) held_by.1 ∙ h.1) (ap is_some h.2))),
        )
      where
        is_there_ : (q : Option (Thing K C)) → is_some q ≡ true → (x : Thing K C) × (q ≡ Some x)
        is_there_ (Some x) yes_ = (x, refl)
        is_there_ None yes_ = absurd (cc yes_)

    module _ (gone : K → Bool) (state want : List (Thing K C)) (is_lost : IsLost eq weak fit_of state want gone) where
      -- nothing is sent when nothing differs
      pub plan_idle : ready eq [] state ≡ true → settled eq weak state [] state ≡ true → ready eq [] want ≡ true → Same eq state want
          → planned eq alike weak gone state want ≡ []
      plan_idle order is_set wanted is =
          let here = all_found eq sound same alike takes alike_is [] state state refl order in
          let stays : AllByRecursion (λ o. gone o.key ≡ false) state =
          all_by (λ o. found eq state o.key ≡ Some o) (λ o. gone o.key ≡ false)
          (λ o at. is_lost.spared o.key (has eq state, all_together state want order is_set is, ap is_some at)) state here in
          ap (λ l. map Delete l ++ makes eq alike (kept eq weak gone state) want) (none_asked gone [] state stays)
          ∙ ap (λ l. makes eq alike l want) (filter_true (λ o. not (gone o.key)) state
          (all_by (λ o. gone o.key ≡ false) (λ o. not (gone o.key) ≡ true) (λ o off. ap not off) state stays))
          ∙ none_made state want (all_same want state (λ k. sym (is k)) want (all_found eq sound same alike takes alike_is [] want want refl wanted))

      -- what stays doesn't go
      pub stays_here : (o : Thing K C) → found eq state o.key ≡ Some o → found eq want o.key ≡ Some o → Stays eq weak fit_of state want o → gone o.key ≡ false
      stays_here o here wanted stays = is_false (gone o.key) (λ on.
          let two = at_found eq sound (λ p. gone p.key ≡ goes eq weak fit_of state want gone p) state o.key o is_lost.lost here in
          either ⊥
          (λ off. no_ (sym (ap (λ q. not (stays_by fit_of o q)) wanted ∙ ap (λ b. not (b || takes o o)) (alike_same o)) ∙ off))
          (λ more. either ⊥
          (λ need. no_ (sym (none_each eq sound same gone (needs o) (λ n is. is_lost.spared n (stays.0 n is))) ∙ need))
          (λ alone.
          let h = stays.1 (and_left_ (weak o.key) _ alone) in
          no_ (sym (not_true (held eq state gone o.key) (and_right (weak o.key) _ alone))
          ∙ any_found eq sound (λ p. not (gone p.key) && holds eq o.key p) state h.0.key h.0 h.1
          (and_two (not (gone h.0.key)) _ (ap not (is_lost.spared h.0.key h.3)) h.2)))
          (or_either (list_any gone (needs o)) _ more))
          (or_either (not (stays_by fit_of o (found eq want o.key))) _ (sym two.0 ∙ on)))
        where
          no_ : false ≡ true → ⊥
          no_ is = cc is

          and_left_ : (a b : Bool) → (a && b) ≡ true → a ≡ true
          and_left_ true b is = refl
          and_left_ false b is = absurd (cc is)

      kept_found : (k : K) → gone k ≡ false → found eq (kept eq weak gone state) k ≡ found eq state k
      kept_found k off = found-filter eq sound gone state k ∙ ap (λ b. cond b None (found eq state k)) off

      untouched_deletes : (k : K) (keys : List K) → among eq keys k ≡ false → IsUntouched {C = C} eq k (map Delete keys)
      untouched_deletes k [] is = refl
      untouched_deletes k (key ∷ keys) is = ap (λ b. b || list_any (λ r. eq k (key_of {C = C} r)) (map Delete keys)) (or_left (eq k key) _ is)
          ∙ untouched_deletes k keys (or_right (eq k key) _ is)

      other_request : (w : Thing K C) (k : K) → eq k w.key ≡ false → (q : Option (Thing K C)) → IsUntouched eq k (request_of eq alike w q)
      other_request w k other None = ap (λ b. b || false) other
      other_request w k other (Some o) = pick (IsUntouched eq k) (alike o w) [] (Change w ∷ []) (λ same_. refl) (λ differs. ap (λ b. b || false) other)

      untouched_makes : (o : Thing K C) (stay : List (Thing K C)) → found eq want o.key ≡ Some o → found eq stay o.key ≡ Some o → (rest : List (Thing K C))
          → AllByRecursion (λ w. found eq want w.key ≡ Some w) rest
          → IsUntouched eq o.key (makes eq alike stay rest)
      untouched_makes o stay wanted there [] all = refl
      untouched_makes o stay wanted there (w ∷ rest) all =
          list_any-append (λ r. eq o.key (key_of r)) (request_of eq alike w (found eq stay w.key)) (makes eq alike stay rest)
          ∙ ap (λ b. b || list_any (λ r. eq o.key (key_of r)) (makes eq alike stay rest))
          (by_cases (IsUntouched eq o.key (request_of eq alike w (found eq stay w.key))) (eq o.key w.key)
          (λ here.
          let e : w ≡ o = cc (sym all.0 ∙ ap (found eq want) (sym (sound o.key w.key here)) ∙ wanted) in
          ap (list_any (λ r. eq o.key (key_of r)))
          (no_request w (found eq stay w.key) (ap (found eq stay) (sym (sound o.key w.key here)) ∙ there ∙ ap Some (sym e))))
          (λ other. other_request w o.key other (found eq stay w.key)))
          ∙ untouched_makes o stay wanted there rest all.1

      -- only what goes, and isn't weak, is asked for
      pub asked_free : (removed : List (K × K)) (rest : List (Thing K C)) (k : K) → (gone k ≡ true → weak k ≡ true)
          → among eq (asked eq weak gone removed rest) k ≡ false
      asked_free removed [] k is = refl
      asked_free removed (o ∷ rest) k is =
          pick (λ l. among eq l k ≡ false) (gone o.key) _ _
          (λ on.
          list_any-append (eq k) (asked eq weak gone (add eq weak removed o) rest) (cond (is_along eq weak gone o (remover_of eq weak (remover eq removed) o)) []
          (o.key ∷ []))
          ∙ ap (λ b. b || among eq (cond (is_along eq weak gone o (remover_of eq weak (remover eq removed) o)) [] (o.key ∷ [])) k)
          (asked_free (add eq weak removed o) rest k is)
          ∙ pick (λ l. among eq l k ≡ false) (is_along eq weak gone o (remover_of eq weak (remover eq removed) o)) [] (o.key ∷ []) (λ _. refl)
          (λ off. ap (λ b. b || false) (is_false (eq k o.key) (λ one.
          refuted (weak o.key) (ap weak (sym (sound k o.key one)) ∙ is (ap gone (sound k o.key one) ∙ on))
          (or_right (is_some (remover_of eq weak (remover eq removed) o)) _ off)))))
          (λ off. asked_free removed rest k is)

      spared_free : (k : K) → gone k ≡ false → among eq (asked eq weak gone [] state) k ≡ false
      spared_free k off = asked_free [] state k (λ on. refuted (gone k) on off)

      -- what is equal in both and stays is left alone
      pub plan_keeps : ready eq [] want ≡ true → IsLeftAlone eq weak fit_of state want (planned eq alike weak gone state want)
      plan_keeps wanted o here there stays =
          let off = stays_here o here there stays in
          let keys = asked eq weak gone [] state in
          let stay = kept eq weak gone state in
          list_any-append (λ r. eq o.key (key_of r)) (map Delete keys) (makes eq alike stay want)
          ∙ ap (λ b. b || list_any (λ r. eq o.key (key_of r)) (makes eq alike stay want)) (untouched_deletes o.key keys (spared_free o.key off))
          ∙ untouched_makes o stay there (kept_found o.key off ∙ here) want (all_found eq sound same alike takes alike_is [] want want refl wanted)

      spared_deletes : (k : K) (keys : List K) → among eq keys k ≡ false → list_any (deletes {C = C} eq k) (map Delete keys) ≡ false
      spared_deletes k [] is = refl
      spared_deletes k (key ∷ keys) is = ap (λ b. b || list_any (deletes {C = C} eq k) (map Delete keys)) (or_left (eq k key) _ is)
          ∙ spared_deletes k keys (or_right (eq k key) _ is)

      spared_one : (k : K) (w : Thing K C) (q : Option (Thing K C)) → list_any (deletes eq k) (request_of eq alike w q) ≡ false
      spared_one k w None = refl
      spared_one k w (Some o) = pick (λ l. list_any (deletes eq k) l ≡ false) (alike o w) [] (Change w ∷ []) (λ is. refl) (λ is. refl)

      pub spared_makes : (k : K) (stay rest : List (Thing K C)) → list_any (deletes eq k) (makes eq alike stay rest) ≡ false
      spared_makes k stay [] = refl
      spared_makes k stay (w ∷ rest) =
          list_any-append (deletes eq k) (request_of eq alike w (found eq stay w.key)) (makes eq alike stay rest)
          ∙ ap (λ b. b || list_any (deletes eq k) (makes eq alike stay rest)) (spared_one k w (found eq stay w.key)) ∙ spared_makes k stay rest

      not_deleted : (k : K) → among eq (asked eq weak gone [] state) k ≡ false → list_any (deletes eq k) (planned eq alike weak gone state want) ≡ false
      not_deleted k free =
          let keys = asked eq weak gone [] state in
          list_any-append (deletes {C = C} eq k) (map Delete keys) (makes eq alike (kept eq weak gone state) want)
          ∙ ap (λ b. b || list_any (deletes eq k) (makes eq alike (kept eq weak gone state) want)) (spared_deletes k keys free)
          ∙ spared_makes k (kept eq weak gone state) want

      pub plan_spares : IsSpared eq weak fit_of state want (planned eq alike weak gone state want)
      plan_spares k stays = not_deleted k (spared_free k (is_lost.spared k stays))

      -- what is weak isn't deleted
      pub plan_gone : (k : K) → weak k ≡ true → list_any (deletes eq k) (planned eq alike weak gone state want) ≡ false
      plan_gone k w = not_deleted k (asked_free [] state k (λ _. w))

      module _ (can : Thing K C → Bool) where
        none_deleted : (keys : List K) → barred_keys {C = C} can (map Delete keys) ≡ []
        none_deleted [] = refl
        none_deleted (k ∷ keys) = none_deleted keys

        barred_one : (w : Thing K C) → found eq want w.key ≡ Some w → (q : Option (Thing K C)) → found eq (kept eq weak gone state) w.key ≡ q
            → AllByRecursion (IsBarred eq weak fit_of state want can) (barred_keys can (request_of eq alike w q))
        barred_one w wanted None there =
            pick (λ l. AllByRecursion (IsBarred eq weak fit_of state want can) (l ++ [])) (can w) [] (w.key ∷ []) (λ is. tt)
            (λ cannot. (
              (w, wanted, cannot, λ here stays. absurd (cc (sym there ∙ kept_found w.key (stays_here w here wanted stays) ∙ here))),
              tt,
            ))
        barred_one w wanted (Some o) there =
            pick (λ l. AllByRecursion (IsBarred eq weak fit_of state want can) (barred_keys can l)) (alike o w) [] (Change w ∷ []) (λ is. tt)
            (λ other. pick (λ l. AllByRecursion (IsBarred eq weak fit_of state want can) (l ++ [])) (can w) [] (w.key ∷ []) (λ is. tt)
            (λ cannot. (
              (
                w,
                wanted,
                cannot,
                λ here stays.
                    let e : o ≡ w = cc (sym there ∙ kept_found w.key (stays_here w here wanted stays) ∙ here) in
                    absurd (cc (sym other ∙ ap (λ x. alike x w) e ∙ alike_same w)),
              ),
              tt,
            )))

        barred_makes : (rest : List (Thing K C)) → AllByRecursion (λ w. found eq want w.key ≡ Some w) rest
            → AllByRecursion (IsBarred eq weak fit_of state want can) (barred_keys can (makes eq alike (kept eq weak gone state) rest))
        barred_makes [] all = tt
        barred_makes (w ∷ rest) all =
            let stay = kept eq weak gone state in
            subst (AllByRecursion (IsBarred eq weak fit_of state want can))
            (sym (flat_map-append (barred_by can) (request_of eq alike w (found eq stay w.key)) (makes eq alike stay rest)))
            (all_append (IsBarred eq weak fit_of state want can) (barred_keys can (request_of eq alike w (found eq stay w.key)))
            (barred_keys can (makes eq alike stay rest))
            (barred_one w all.0 (found eq stay w.key) refl) (barred_makes rest all.1))

        -- what can't be made for a plan isn't there, or doesn't stay
        pub plan_barred : ready eq [] want ≡ true
            → AllByRecursion (IsBarred eq weak fit_of state want can) (barred_keys can (planned eq alike weak gone state want))
        plan_barred wanted =
            let keys = asked eq weak gone [] state in
            let stay = kept eq weak gone state in
            subst (AllByRecursion (IsBarred eq weak fit_of state want can))
            (sym (flat_map-append (barred_by can) (map Delete keys) (makes eq alike stay want)
            ∙ ap (λ l. l ++ barred_keys can (makes eq alike stay want)) (none_deleted keys)))
            (barred_makes want (all_found eq sound same alike takes alike_is [] want want refl wanted))

    module _ (state want : List (Thing K C)) (can : Thing K C → Bool) where
      -- nothing is barred if all that is wanted can be made
      pub none_barred : AllByRecursion (λ o. can o ≡ true) want → (keys : List K) → AllByRecursion (IsBarred eq weak fit_of state want can) keys → keys ≡ []
      none_barred all [] barred = refl
      none_barred all (k ∷ keys) barred =
          let o = barred.0 in
          absurd (cc (sym (found_in eq (λ w. can w ≡ true) want k o.0 all o.1).0 ∙ o.2))

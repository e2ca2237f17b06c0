-- A plan for what is named touches nothing elsewhere, if nothing there needs something that is named.
use Rattle.std.proofs.Common.{◌≡◌, Bool, true, false, not, cond, ◌&&◌, ◌||◌, List, [], ◌∷◌, ◌++◌, Some, None, refl, sym, ap, subst, ◌∙◌, append-nil}
use Rattle.std.specs.Prelude.{filter, is_some}
use Rattle.std.specs.List.{list_any, list_all, AllByRecursion}
use Rattle.tc_changes.specs.Model.{Thing, needs, or_else, at_key, among, found, has, ready}
use Rattle.tc_changes.specs.Requests.{Request, Make, Change, Delete, holds, settled}
use Rattle.tc_changes.specs.Plans.{fits, key_of, IsAbout, IsUntouched, IsLeftAlone, StayTogether}
use Rattle.tc_changes.proofs.Lookups.{and_left, and_right, or_left, or_right, not_true, by_cases, or_else_none, found-append, found-filter}
use Rattle.tc_changes.proofs.Lookups.{all_by, all_each, any_at, any_one, any_found, at_found, is_false, refuted}
use Rattle.tc_changes.proofs.Going.{is_there}
use Rattle.tc_changes.proofs.Fronts.{needs_in}
use Rattle.tc_changes.proofs.Wholes.{passed, passed_has, ready-append, ready_one, and_both}
use Rattle.tc_changes.proofs.Keeps.{all_found}

module _ {K C : Type 0} (eq : K → K → Bool) (sound : (a b : K) → eq a b ≡ true → a ≡ b) (same : (a : K) → eq a a ≡ true)
    (alike takes : Thing K C → Thing K C → Bool) (alike_is : (a b : Thing K C) → alike a b ≡ true → a ≡ b)
    (alike_same : (a : Thing K C) → alike a a ≡ true) (test : K → Bool) where
  -- the objects that don't pass a test
  abbrev pub others : List (Thing K C) → List (Thing K C)
  others state = filter (λ o. not (test o.key)) state

  -- no object that doesn't pass it needs one that does
  abbrev pub AreFree : List (Thing K C) → Type 0
  AreFree state = AllByRecursion (λ o. test o.key ≡ false → list_any test (needs o) ≡ false) state

  abbrev pub AreNamed : List (Thing K C) → Type 0
  AreNamed want = AllByRecursion (λ o. test o.key ≡ true) want

  other_key : (k j : K) → test k ≡ false → test j ≡ true → eq k j ≡ false
  other_key k j off on =
      by_cases (eq k j ≡ false) (eq k j) (λ here. absurd (cc (sym off ∙ ap test (sound k j here) ∙ on))) (λ there. there)

  none_found : (want : List (Thing K C)) → AreNamed want → (k : K) → test k ≡ false → found eq want k ≡ None
  none_found [] all k off = refl
  none_found (o ∷ want) all k off =
      ap (λ q. or_else q (at_key eq o k)) (none_found want all.1 k off) ∙ ap (λ b. cond b (Some o) None) (other_key k o.key off all.0)

  -- what doesn't pass the test is found among what is wanted and the others as in the state
  found_other : (state want : List (Thing K C)) → AreNamed want → (k : K) → test k ≡ false → found eq (want ++ others state) k ≡ found eq state k
  found_other state want all k off =
      found-append eq want (others state) k
      ∙ ap (λ q. or_else q (found eq want k)) (found-filter eq sound test state k ∙ ap (λ b. cond b None (found eq state k)) off)
      ∙ ap (λ q. or_else (found eq state k) q) (none_found want all k off)
      ∙ or_else_none (found eq state k)

  -- ---- their order

  all_left : (before left ns : List K) → ((k : K) → test k ≡ false → among eq left k ≡ among eq before k) → list_all (among eq before) ns ≡ true
      → list_any test ns ≡ false → list_all (among eq left) ns ≡ true
  all_left before left [] agree all none = refl
  all_left before left (n ∷ ns) agree all none =
      and_both (among eq left n) (list_all (among eq left) ns) (agree n (or_left (test n) _ none) ∙ and_left (among eq before n) _ all)
      (all_left before left ns agree (and_right (among eq before n) _ all) (or_right (test n) _ none))

  ready_others : (before left : List K) (state : List (Thing K C)) → ready eq before state ≡ true → AreFree state
      → ((k : K) → test k ≡ false → among eq left k ≡ among eq before k) → ready eq left (others state) ≡ true
  ready_others before left [] is free agree = refl
  ready_others before left (o ∷ state) is free agree =
      let first = and_left (not (among eq before o.key) && list_all (among eq before) (needs o)) (ready eq (o.key ∷ before) state) is in
      let rest = and_right (not (among eq before o.key) && list_all (among eq before) (needs o)) (ready eq (o.key ∷ before) state) is in
      let fresh = not_true (among eq before o.key) (and_left _ _ first) in
      let all = and_right (not (among eq before o.key)) _ first in
      by_cases (ready eq left (others (o ∷ state)) ≡ true) (test o.key)
      (λ on. ap (λ b. ready eq left (cond (not b) (o ∷ others state) (others state))) on
      ∙ ready_others (o.key ∷ before) left state rest free.1
      (λ k off. agree k off ∙ sym (ap (λ b. b || among eq before k) (other_key k o.key off on))))
      (λ off. ap (λ b. ready eq left (cond (not b) (o ∷ others state) (others state))) off
      ∙ ready_one eq left o (others state) (agree o.key off ∙ fresh) (all_left before left (needs o) agree all (free.0 off))
      (ready_others (o.key ∷ before) (o.key ∷ left) state rest free.1 (λ k off_. ap (λ b. eq k o.key || b) (agree k off_))))

  pub ready_completed : (state want : List (Thing K C)) → ready eq [] state ≡ true → ready eq [] want ≡ true → AreNamed want → AreFree state
      → ready eq [] (want ++ others state) ≡ true
  ready_completed state want order wanted all free =
      ready-append eq [] want (others state)
      ∙ and_both (ready eq [] want) _ wanted
      (ready_others [] (passed [] want) state order free (λ k off. passed_has eq [] want k ∙ ap is_some (none_found want all k off)))

  -- ---- they can stay

  -- to each weak object that doesn't pass the test one refers that doesn't
  abbrev pub AreHeld : (K → Bool) → List (Thing K C) → Type 0
  AreHeld weak state = AllByRecursion (λ o. test o.key ≡ false → weak o.key ≡ true
      → list_any (λ h. holds eq o.key h && not (test h.key)) state ≡ true) state

  module _ (weak : K → Bool) (state want : List (Thing K C)) (order : ready eq [] state ≡ true) (is_set : settled eq weak state [] state ≡ true)
      (all : AreNamed want) (free : AreFree state) (are_held : AreHeld weak state) where
    abbrev elsewhere : K → Bool
    elsewhere k = not (test k) && has eq state k

    here : AllByRecursion (λ o. found eq state o.key ≡ Some o) state
    here = all_found eq sound same alike takes alike_is [] state state refl order

    needs_elsewhere : (k : K) (o : Thing K C) → found eq state k ≡ Some o → test k ≡ false → (n : K) → among eq (needs o) n ≡ true → elsewhere n ≡ true
    needs_elsewhere k o at off n need =
        let in_front = at_found eq sound (λ o. among eq (passed [] state) o.key ≡ true → (n : K) → among eq (needs o) n ≡ true
        → among eq (passed [] state) n ≡ true) state k o
        (needs_in eq sound same weak state state [] (append-nil state) order is_set) at in
        let is_free = at_found eq sound (λ o. test o.key ≡ false → list_any test (needs o) ≡ false) state k o free at in
        and_both (not (test n)) _
        (ap not (is_false (test n) (λ on. refuted (list_any test (needs o)) (any_at eq sound same test (needs o) n need on)
        (is_free.0 (ap test (sym is_free.1) ∙ off)))))
        (sym (passed_has eq [] state n)
        ∙ in_front.0 (passed_has eq [] state o.key ∙ ap (has eq state) (sym in_front.1) ∙ ap is_some at) n need)

    held_elsewhere : (k : K) (o : Thing K C) → found eq state k ≡ Some o → test k ≡ false → weak k ≡ true
        → (h : Thing K C) × (found eq state h.key ≡ Some h) × (holds eq k h ≡ true) × (elsewhere h.key ≡ true)
    held_elsewhere k o at off w =
        let is_held = at_found eq sound (λ o. test o.key ≡ false → weak o.key ≡ true → list_any (λ h. holds eq o.key h && not (test h.key)) state
        ≡ true) state k o are_held at in
        let h = any_one (λ h. holds eq o.key h && not (test h.key)) (λ h. found eq state h.key ≡ Some h) state here
        (is_held.0 (ap test (sym is_held.1) ∙ off) (ap weak (sym is_held.1) ∙ w)) in (
          h.0,
          h.2,
          ap (λ x. holds eq x h.0) is_held.1 ∙ and_left (holds eq o.key h.0) _ h.1,
          and_both (not (test h.0.key)) _ (and_right (holds eq o.key h.0) _ h.1) (ap is_some h.2),
        )

    together : StayTogether eq weak (fits alike takes) state (want ++ others state) elsewhere
    together k is =
        let off = not_true (test k) (and_left (not (test k)) _ is) in
        let o = is_there (found eq state k) (and_right (not (test k)) _ is) in (
          o.0,
          o.0,
          o.1,
          found_other state want all k off ∙ o.1,
          ap (λ b. b || takes o.0 o.0) (alike_same o.0),
          all_each eq sound same elsewhere (needs o.0) (needs_elsewhere k o.0 o.1 off),
          (λ w.
              let h = held_elsewhere k o.0 o.1 off w in
              any_found eq sound (λ p. holds eq k p && elsewhere p.key) state h.0.key h.0 h.1 (and_both (holds eq k h.0) _ h.2 h.3)),
        )

    -- ---- so no request is about one of them

    module _ (steps : List (Request K C)) (alone : IsLeftAlone eq weak (fits alike takes) state (want ++ others state) steps) where
      untouched : AllByRecursion (λ o. test o.key ≡ false → IsUntouched eq o.key steps) state
      untouched = all_by (λ o. found eq state o.key ≡ Some o) (λ o. test o.key ≡ false → IsUntouched eq o.key steps)
          (λ o at off. alone o at (found_other state want all o.key off ∙ at) (
            (λ n need. (elsewhere, together, needs_elsewhere o.key o at off n need)),
            (λ w. let h = held_elsewhere o.key o at off w in (h.0, h.1, h.2, (elsewhere, together, h.3))),
          )) state here

      of_key : (rest : List (Thing K C)) → AllByRecursion (λ o. test o.key ≡ false → IsUntouched eq o.key steps) rest → (k : K) → test k ≡ false
          → has eq rest k ≡ true → IsUntouched eq k steps
      of_key [] none k off is = absurd (cc is)
      of_key (o ∷ rest) none k off is =
          by_cases (IsUntouched eq k steps) (eq k o.key)
          (λ here. subst (λ j. IsUntouched eq j steps) (sym (sound k o.key here)) (none.0 (sym (ap test (sound k o.key here)) ∙ off)))
          (λ there. of_key rest none.1 k off
          (sym (ap (λ b. is_some (or_else (found eq rest k) (cond b (Some o) None))) there ∙ ap is_some (or_else_none (found eq rest k))) ∙ is))

      has_about : (r : Request K C) → IsAbout eq state (want ++ others state) r → test (key_of r) ≡ false → has eq state (key_of r) ≡ true
      has_about (Delete k) about off = about
      has_about (Make o) about off = ap is_some (sym (found_other state want all o.key off) ∙ about)
      has_about (Change o) about off = about.1

      within : (rs : List (Request K C)) → AllByRecursion (IsAbout eq state (want ++ others state)) rs
          → ((k : K) → test k ≡ false → has eq state k ≡ true → list_any (λ r. eq k (key_of r)) rs ≡ false) → list_all (λ r. test (key_of r)) rs ≡ true
      within [] about none = refl
      within (r ∷ rs) about none =
          and_both (test (key_of r)) _
          (by_cases (test (key_of r) ≡ true) (test (key_of r)) (λ on. on)
          (λ off. absurd (cc (sym (or_left (eq (key_of r) (key_of r)) _ (none (key_of r) off (has_about r about.0 off))) ∙ same (key_of r)))))
          (within rs about.1 (λ k off there. or_right (eq k (key_of r)) _ (none k off there)))

      pub steps_within : AllByRecursion (IsAbout eq state (want ++ others state)) steps → list_all (λ r. test (key_of r)) steps ≡ true
      steps_within about = within steps about (of_key state untouched)

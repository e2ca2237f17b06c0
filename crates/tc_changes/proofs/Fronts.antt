-- A front of a state that is in order, and whose weak objects are as a plan needs them.
use Rattle.std.proofs.Common.{◌≡◌, ◌==◌, length, Bool, true, false, not, ◌&&◌, ◌||◌, List, [], ◌∷◌, ◌++◌, sym, ap, subst, ◌∙◌}
use Rattle.std.proofs.Common.{append_assoc, append-nil}
use Rattle.std.proofs.Common.{arith}
use Rattle.std.proofs.lemmas.Grind.{common_steps}
use Rattle.std.specs.List.{list_any, AllByRecursion}
use Rattle.std.proofs.lemmas.List.Folds.{list_any-append}
use Rattle.tc_changes.specs.Model.{Thing, needs, among, is_next, ready, unders}
use Rattle.tc_changes.specs.Requests.{holds, is_settled, settled}
use Rattle.tc_changes.proofs.Lookups.{and_left, and_right, or_right, or_first, or_second, and_two, not_true, refuted, is_false}
use Rattle.tc_changes.proofs.Lookups.{all_append, all_by, all_at, either, or_either}
use Rattle.tc_changes.proofs.Wholes.{passed, passed_has, ready-append}

module _ {K C : Type 0} (eq : K → K → Bool) (sound : (a b : K) → eq a b ≡ true → a ≡ b) (same : (a : K) → eq a a ≡ true) where
  -- the keys of objects in order aren't those before them
  pub rest_fresh : (before : List K) (rest : List (Thing K C)) → ready eq before rest ≡ true → AllByRecursion (λ o. among eq before o.key ≡ false) rest
  rest_fresh before [] is = tt
  rest_fresh before (o ∷ rest) is = (
    not_true (among eq before o.key) (and_left (not (among eq before o.key)) _ (and_left (is_next eq before o) _ is)),
    all_by (λ p. among eq (o.key ∷ before) p.key ≡ false) (λ p. among eq before p.key ≡ false) (λ p fresh. or_right (eq p.key o.key) _ fresh) rest
        (rest_fresh (o.key ∷ before) rest (and_right (is_next eq before o) _ is)),
  )

  passed_more : (before : List K) (s : List (Thing K C)) (k : K) → among eq before k ≡ true → among eq (passed before s) k ≡ true
  passed_more before s k there = passed_has eq before s k ∙ or_first (among eq before k) _ there

  -- what objects in order need is among them and those before
  front_needs : (before : List K) (front : List (Thing K C)) → ready eq before front ≡ true
      → AllByRecursion (λ o. (n : K) → among eq (needs o) n ≡ true → among eq (passed before front) n ≡ true) front
  front_needs before [] is = tt
  front_needs before (o ∷ front) is = (
    (λ n need. passed_more (o.key ∷ before) front n (or_second (eq n o.key) _
        (all_at eq sound same (among eq before) (needs o) n
        (and_right (not (among eq before o.key)) _ (and_left (is_next eq before o) _ is)) need))),
    front_needs (o.key ∷ before) front (and_right (is_next eq before o) _ is),
  )

  -- the keys that some objects are under are among those that all are
  under_all : (front : List (Thing K C)) → AllByRecursion (λ o. (w : K) → among eq o.under w ≡ true → among eq (unders front) w ≡ true) front
  under_all [] = tt
  under_all (o ∷ front) = (
    (λ w is. list_any-append (eq w) o.under (unders front) ∙ or_first (among eq o.under w) _ is),
    all_by (λ p. (w : K) → among eq p.under w ≡ true → among eq (unders front) w ≡ true)
        (λ p. (w : K) → among eq p.under w ≡ true → among eq (unders (o ∷ front)) w ≡ true)
        (λ p turn w is. list_any-append (eq w) o.under (unders front) ∙ or_second (among eq o.under w) _ (turn w is)) front (under_all front),
  )

  all_there : (P : Thing K C → Type 0) → ((o : Thing K C) → P o) → (s : List (Thing K C)) → AllByRecursion P s
  all_there P all [] = tt
  all_there P all (o ∷ s) = (all o, all_there P all s)

  pub own_there : (before : List K) (front : List (Thing K C)) → AllByRecursion (λ o. among eq (passed before front) o.key ≡ true) front
  own_there before [] = tt
  own_there before (o ∷ front) = (passed_more (o.key ∷ before) front o.key (or_first (eq o.key o.key) _ (same o.key)), own_there (o.key ∷ before) front)

  module _ (weak : K → Bool) (state : List (Thing K C)) where
    -- the weak objects of a state need nothing, and others refer to them
    pub weak_held : (before : List K) (rest : List (Thing K C)) → settled eq weak state before rest ≡ true
        → AllByRecursion (λ o. weak o.key ≡ true → ((n : K) → among eq (needs o) n ≡ true → ⊥) × (list_any (holds eq o.key) state ≡ true)) rest
    weak_held before [] is = tt
    weak_held before (o ∷ rest) is = (
      λ w.
          let own = and_left (not (weak o.key) || ((length o.under == 0 && length o.refers == 0) && list_any (holds eq o.key) state)) _
          (and_left (is_settled eq weak state (before ++ o.under) o) _ is) in
          let two : ((length o.under == 0 && length o.refers == 0) && list_any (holds eq o.key) state) ≡ true =
          sym (ap (λ b. not b || ((length o.under == 0 && length o.refers == 0) && list_any (holds eq o.key) state)) w) ∙ own in
          let free = and_left (length o.under == 0 && length o.refers == 0) _ two in (
            (λ n need. nothing o (and_left (length o.under == 0) _ free) (and_right (length o.under == 0) _ free) n need),
            and_right (length o.under == 0 && length o.refers == 0) _ two,
          ),
      weak_held (before ++ o.under) rest (and_right (is_settled eq weak state (before ++ o.under) o) _ is),
    )
      where
        nothing_in : (ns : List K) → (length ns == 0) ≡ true → (n : K) → among eq ns n ≡ true → ⊥
        nothing_in [] is n there = cc there
        nothing_in (m ∷ ns) is n there = grind (arith, common_steps, is)

        nothing : (p : Thing K C) → (length p.under == 0) ≡ true → (length p.refers == 0) ≡ true → (n : K) → among eq (needs p) n ≡ true → ⊥
        nothing p one two n there = either ⊥ (λ a. nothing_in p.under one n a) (λ b. nothing_in p.refers two n b)
            (or_either (among eq p.under n) _ (sym (list_any-append (eq n) p.under p.refers) ∙ there))

    among_more : (before more : List K) (k : K) → among eq before k ≡ true → among eq (before ++ more) k ≡ true
    among_more before more k is = list_any-append (eq k) before more ∙ or_first (among eq before k) _ is

    -- what refers to a weak object comes before what is under that
    none_holds : (before : List K) (rest : List (Thing K C)) → settled eq weak state before rest ≡ true
        → AllByRecursion (λ h. (w : K) → among eq before w ≡ true → weak w ≡ true → holds eq w h ≡ false) rest
    none_holds before [] is = tt
    none_holds before (o ∷ rest) is = (
      (λ w there is_weak. is_false (holds eq w o) (λ on.
          refuted (weak w && among eq (before ++ o.under) w) (and_two (weak w) _ is_weak (among_more before o.under w there))
          (not_true (weak w && among eq (before ++ o.under) w)
          (all_at eq sound same (λ k. not (weak k && among eq (before ++ o.under) k)) o.refers w
          (and_right (not (weak o.key) || ((length o.under == 0 && length o.refers == 0) && list_any (holds eq o.key) state)) _
          (and_left (is_settled eq weak state (before ++ o.under) o) _ is)) on)))),
      all_by (λ h. (w : K) → among eq (before ++ o.under) w ≡ true → weak w ≡ true → holds eq w h ≡ false)
          (λ h. (w : K) → among eq before w ≡ true → weak w ≡ true → holds eq w h ≡ false)
          (λ h none w there is_weak. none w (among_more before o.under w there) is_weak) rest
          (none_holds (before ++ o.under) rest (and_right (is_settled eq weak state (before ++ o.under) o) _ is)),
    )

    -- an object isn't under a weak one to which it refers
    not_both : (before : List K) (o : Thing K C) (rest : List (Thing K C)) → settled eq weak state before (o ∷ rest) ≡ true
        → (w : K) → among eq o.under w ≡ true → weak w ≡ true → holds eq w o ≡ false
    not_both before o rest is w under is_weak = is_false (holds eq w o) (λ on.
        refuted (weak w && among eq (before ++ o.under) w)
        (and_two (weak w) _ is_weak (list_any-append (eq w) before o.under ∙ or_second (among eq before w) _ under))
        (not_true (weak w && among eq (before ++ o.under) w)
        (all_at eq sound same (λ k. not (weak k && among eq (before ++ o.under) k)) o.refers w
        (and_right (not (weak o.key) || ((length o.under == 0 && length o.refers == 0) && list_any (holds eq o.key) state)) _
        (and_left (is_settled eq weak state (before ++ o.under) o) _ is)) on)))

    settled_rest : (before : List K) (front rest : List (Thing K C)) → settled eq weak state before (front ++ rest) ≡ true
        → settled eq weak state (before ++ unders front) rest ≡ true
    settled_rest before [] rest is = ap (λ l. settled eq weak state l rest) (append-nil before) ∙ is
    settled_rest before (o ∷ front) rest is =
        ap (λ l. settled eq weak state l rest) (sym (append_assoc before o.under (unders front)))
        ∙ settled_rest (before ++ o.under) front rest (and_right (is_settled eq weak state (before ++ o.under) o) _ is)

    module _ (front rest : List (Thing K C)) (all : front ++ rest ≡ state) (order : ready eq [] state ≡ true)
        (is_set : settled eq weak state [] state ≡ true) where
      order_all : (ready eq [] front && ready eq (passed [] front) rest) ≡ true
      order_all = sym (ready-append eq [] front rest) ∙ ap (ready eq []) all ∙ order

      set_rest : settled eq weak state (unders front) rest ≡ true
      set_rest = settled_rest [] front rest (ap (settled eq weak state []) all ∙ is_set)

      split : (P : Thing K C → Type 0) → AllByRecursion P front → AllByRecursion P rest → AllByRecursion P state
      split P one two = subst (AllByRecursion P) all (all_append P front rest one two)

      new_rest : AllByRecursion (λ o. among eq (passed [] front) o.key ≡ false) rest
      new_rest = rest_fresh (passed [] front) rest (and_right (ready eq [] front) _ order_all)

      -- what the objects of a front need is in the front
      pub needs_in : AllByRecursion (λ o. among eq (passed [] front) o.key ≡ true → (n : K) → among eq (needs o) n ≡ true → among eq (passed [] front) n ≡ true)
          state
      needs_in = split (λ o. among eq (passed [] front) o.key ≡ true → (n : K) → among eq (needs o) n ≡ true → among eq (passed [] front) n ≡ true)
          (all_by (λ o. (n : K) → among eq (needs o) n ≡ true → among eq (passed [] front) n ≡ true)
          (λ o. among eq (passed [] front) o.key ≡ true → (n : K) → among eq (needs o) n ≡ true → among eq (passed [] front) n ≡ true)
          (λ o turn _. turn) front (front_needs [] front (and_left (ready eq [] front) _ order_all)))
          (all_by (λ o. among eq (passed [] front) o.key ≡ false)
          (λ o. among eq (passed [] front) o.key ≡ true → (n : K) → among eq (needs o) n ≡ true → among eq (passed [] front) n ≡ true)
          (λ o out on. refuted (among eq (passed [] front) o.key) on out) rest new_rest)

      pub under_in : AllByRecursion (λ o. among eq (passed [] front) o.key ≡ true → (w : K) → among eq o.under w ≡ true → among eq (unders front) w ≡ true)
          state
      under_in = split (λ o. among eq (passed [] front) o.key ≡ true → (w : K) → among eq o.under w ≡ true → among eq (unders front) w ≡ true)
          (all_by (λ o. (w : K) → among eq o.under w ≡ true → among eq (unders front) w ≡ true)
          (λ o. among eq (passed [] front) o.key ≡ true → (w : K) → among eq o.under w ≡ true → among eq (unders front) w ≡ true)
          (λ o turn _. turn) front (under_all front))
          (all_by (λ o. among eq (passed [] front) o.key ≡ false)
          (λ o. among eq (passed [] front) o.key ≡ true → (w : K) → among eq o.under w ≡ true → among eq (unders front) w ≡ true)
          (λ o out on. refuted (among eq (passed [] front) o.key) on out) rest new_rest)

      -- what refers to a weak object under which one of a front is, is in the front
      pub holds_in : AllByRecursion (λ h. (w : K) → among eq (unders front) w ≡ true → weak w ≡ true → holds eq w h ≡ true
          → among eq (passed [] front) h.key ≡ true) state
      holds_in = split (λ h. (w : K) → among eq (unders front) w ≡ true → weak w ≡ true → holds eq w h ≡ true → among eq (passed [] front) h.key ≡ true)
          (all_by (λ h. among eq (passed [] front) h.key ≡ true)
          (λ h. (w : K) → among eq (unders front) w ≡ true → weak w ≡ true → holds eq w h ≡ true → among eq (passed [] front) h.key ≡ true)
          (λ h there w _ _ _. there) front (own_there [] front))
          (all_by (λ h. (w : K) → among eq (unders front) w ≡ true → weak w ≡ true → holds eq w h ≡ false)
          (λ h. (w : K) → among eq (unders front) w ≡ true → weak w ≡ true → holds eq w h ≡ true → among eq (passed [] front) h.key ≡ true)
          (λ h none w there is_weak on. refuted (holds eq w h) on (none w there is_weak)) rest (none_holds (unders front) rest set_rest))

    -- what refers to a weak object that one is under comes before that one
    pub holds_before : (front : List (Thing K C)) (o : Thing K C) (rest : List (Thing K C)) → front ++ o ∷ rest ≡ state → ready eq [] state ≡ true
        → settled eq weak state [] state ≡ true → (w : K) → among eq o.under w ≡ true → weak w ≡ true
        → AllByRecursion (λ h. holds eq w h ≡ true → among eq (passed [] front) h.key ≡ true) state
    holds_before front o rest all order is_set w under is_weak =
        let here = set_rest front (o ∷ rest) all order is_set in
        subst (AllByRecursion (λ h. holds eq w h ≡ true → among eq (passed [] front) h.key ≡ true)) all
        (all_append (λ h. holds eq w h ≡ true → among eq (passed [] front) h.key ≡ true) front (o ∷ rest)
        (all_by (λ h. among eq (passed [] front) h.key ≡ true) (λ h. holds eq w h ≡ true → among eq (passed [] front) h.key ≡ true) (λ h there _. there) front
        (own_there [] front)) (
          (λ on. refuted (holds eq w o) on (not_both (unders front) o rest here w under is_weak)),
          all_by (λ h. (v : K) → among eq (unders front ++ o.under) v ≡ true → weak v ≡ true → holds eq v h ≡ false)
              (λ h. holds eq w h ≡ true → among eq (passed [] front) h.key ≡ true)
              (λ h none on. refuted (holds eq w h) on
              (none w (list_any-append (eq w) (unders front) o.under ∙ or_second (among eq (unders front) w) _ under) is_weak)) rest
              (none_holds (unders front ++ o.under) rest (and_right (is_settled eq weak state (unders front ++ o.under) o) _ here)),
        ))

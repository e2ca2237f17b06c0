-- Deletes lead from a state to what stays of it.
use Rattle.std.proofs.Common.{◌≡◌, Bool, true, false, not, cond, ◌&&◌, ◌||◌, List, [], ◌∷◌, ◌++◌, Option, Some, None, map, unwrap_or, refl, sym, ap, subst}
use Rattle.std.proofs.Common.{◌∙◌, ◌⊎◌, inl, inr, append_assoc, append-nil}
use Rattle.std.specs.Prelude.{is_some, filter}
use Rattle.std.specs.List.{list_any, AllByRecursion}
use Rattle.std.proofs.lemmas.List.{map-append}
use Rattle.std.proofs.lemmas.List.Folds.{list_any-append}
use Rattle.tc_changes.specs.Model.{Thing, needs, among, or_else, found, has, is_next, ready, unders, IsWhole}
use Rattle.tc_changes.specs.Requests.{Delete, holds, settled, Goes, itself, below, unheld, Sends}
use Rattle.tc_changes.specs.Planned.{remover_of, first_by, is_all_by, is_all_but, only_by, is_along, goes, held, stays_by}
use Rattle.tc_changes.proofs.Lookups.{and_left, and_right, or_left, or_right, or_first, or_second, and_two, by_cases, either, or_either, refuted}
use Rattle.tc_changes.proofs.Lookups.{bool_same, is_false, not_true, all_by, all_append, any_one, any_none, any_at, all_at, none_each, at_found, all_right}
use Rattle.tc_changes.proofs.Lookups.{found-filter}
use Rattle.tc_changes.proofs.Going.{goes_more, none_go, told, is_there, Tells}
use Rattle.tc_changes.proofs.Fronts.{weak_held, needs_in, under_in, holds_in, holds_before, rest_fresh, own_there}
use Rattle.tc_changes.proofs.Firsts.{passed-push}
use Rattle.tc_changes.proofs.Passes.{is_asked, asked_all, Removed}
use Rattle.tc_changes.proofs.Runs.{RunsWhole, none, next, runs-append}
use Rattle.tc_changes.proofs.Wholes.{passed, passed_has, ready-append, kept_ready, whole_ready}

module _ {X : Type 0} where
  pub filter_same : (p q : X → Bool) (xs : List X) → AllByRecursion (λ x. p x ≡ q x) xs → filter p xs ≡ filter q xs
  filter_same p q [] all = refl
  filter_same p q (x ∷ xs) all = ap (λ b. cond b (x ∷ filter p xs) (filter p xs)) all.0 ∙ ap (λ l. cond (q x) (x ∷ l) l) (filter_same p q xs all.1)

  pub filter_true : (p : X → Bool) (xs : List X) → AllByRecursion (λ x. p x ≡ true) xs → filter p xs ≡ xs
  filter_true p [] all = refl
  filter_true p (x ∷ xs) all = ap (λ b. cond b (x ∷ filter p xs) (filter p xs)) all.0 ∙ ap (λ l. x ∷ l) (filter_true p xs all.1)

  -- what is true for all elements, or for all that pass a test, is true for those that do
  pub all_filtered : (P : X → Type 0) (p : X → Bool) (xs : List X) → AllByRecursion (λ x. p x ≡ true → P x) xs → AllByRecursion P (filter p xs)
  all_filtered P p [] all = tt
  all_filtered P p (x ∷ xs) all = by_test (all_filtered P p xs all.1) (p x) refl
    where
      by_test : AllByRecursion P (filter p xs) → (b : Bool) → p x ≡ b → AllByRecursion P (cond b (x ∷ filter p xs) (filter p xs))
      by_test more true on = (all.0 on, more)
      by_test more false off = more

  filter_twice : (p q : X → Bool) → ((x : X) → q x ≡ true → p x ≡ true) → (xs : List X) → filter q xs ≡ filter q (filter p xs)
  filter_twice p q turn [] = refl
  filter_twice p q turn (x ∷ xs) = by_test (filter_twice p q turn xs) (p x) refl
    where
      by_test : filter q xs ≡ filter q (filter p xs) → (b : Bool) → p x ≡ b
          → cond (q x) (x ∷ filter q xs) (filter q xs) ≡ filter q (cond b (x ∷ filter p xs) (filter p xs))
      by_test is true on = ap (λ l. cond (q x) (x ∷ l) l) is
      by_test is false off = ap (λ b. cond b (x ∷ filter q xs) (filter q xs)) (is_false (q x) (λ on. refuted (p x) (turn x on) off)) ∙ is

pub each_of : {X : Type 0} (P : X → Type 0) → ((x : X) → P x) → (xs : List X) → AllByRecursion P xs
each_of P all [] = tt
each_of P all (x ∷ xs) = (all x, each_of P all xs)

module _ {K C : Type 0} (eq : K → K → Bool) (sound : (a b : K) → eq a b ≡ true → a ≡ b) (same : (a : K) → eq a a ≡ true) (weak : K → Bool)
    (state : List (Thing K C)) where
  -- ---- one more delete, after others

  module _ (here : AllByRecursion (λ o. found eq state o.key ≡ Some o) state) (asks : List K) (d : K) (old new : List K)
      (old_tells : Tells eq sound same weak state here asks old) (new_tells : Tells eq sound same weak state here (asks ++ d ∷ []) new) where
    abbrev less : List (Thing K C)
    less = filter (λ o. not (among eq old o.key)) state

    found_less : (j : K) (o : Thing K C) → found eq less j ≡ Some o → (among eq old j ≡ false) × (found eq state j ≡ Some o)
    found_less j o is = by_gone (among eq old j) refl (sym (found-filter eq sound (among eq old) state j) ∙ is)
      where
        by_gone : (b : Bool) → among eq old j ≡ b → cond b None (found eq state j) ≡ Some o → (among eq old j ≡ false) × (found eq state j ≡ Some o)
        by_gone true on at = absurd (cc at)
        by_gone false off at = (off, at)

    less_found : (j : K) (o : Thing K C) → among eq old j ≡ false → found eq state j ≡ Some o → found eq less j ≡ Some o
    less_found j o off is = found-filter eq sound (among eq old) state j ∙ ap (λ b. cond b None (found eq state j)) off ∙ is

    old_new : (j : K) → Goes eq weak state asks j → Goes eq weak state (asks ++ d ∷ []) j
    old_new j along = goes_more eq sound same weak state asks (asks ++ d ∷ [])
        (λ k is. list_any-append (eq k) asks (d ∷ []) ∙ or_first (among eq asks k) _ is) j along

    to_all : (j : K) → Goes eq weak less (d ∷ []) j → Goes eq weak state (asks ++ d ∷ []) j
    to_all _ (itself j is) = itself j (list_any-append (eq j) asks (d ∷ []) ∙ or_second (among eq asks j) _ is)
    to_all _ (below j o n is under along) = below j o n (found_less j o is).1 under (to_all n along)
    to_all _ (unheld j h w there is refers all) =
        let o = is_there (found eq less j) there in
        unheld j h w (ap is_some (found_less j o.0 o.1).1) (found_less h.key h is).1 refers
        (λ i p at holds_p. by_cases (Goes eq weak state (asks ++ d ∷ []) i) (among eq old i) (λ gone_. old_new i ((old_tells i).0 gone_))
        (λ off. to_all i (all i p (less_found i p off at) holds_p)))

    from_all : (j : K) → Goes eq weak state (asks ++ d ∷ []) j → (among eq old j ≡ true) ⊎ Goes eq weak less (d ∷ []) j
    from_all _ (itself j is) = either ((among eq old j ≡ true) ⊎ Goes eq weak less (d ∷ []) j) (λ a. inl ((old_tells j).1 (itself j a))) (λ b. inr (itself j b))
        (or_either (among eq asks j) _ (sym (list_any-append (eq j) asks (d ∷ [])) ∙ is))
    from_all _ (below j o n is under along) =
        by_cases ((among eq old j ≡ true) ⊎ Goes eq weak less (d ∷ []) j) (among eq old j) (λ on. inl on)
        (λ off. either ((among eq old j ≡ true) ⊎ Goes eq weak less (d ∷ []) j)
        (λ a. inl ((old_tells j).1 (below j o n is under ((old_tells n).0 a))))
        (λ b. inr (below j o n (less_found j o off is) under b)) (from_all n along))
    from_all _ (unheld j h w there is refers all) =
        by_cases ((among eq old j ≡ true) ⊎ Goes eq weak less (d ∷ []) j) (among eq old j) (λ on. inl on)
        (λ off. by_cases ((among eq old j ≡ true) ⊎ Goes eq weak less (d ∷ []) j) (list_any (λ p. holds eq j p && not (among eq old p.key)) state)
        (λ some_.
        let p = any_one (λ p. holds eq j p && not (among eq old p.key)) (λ p. found eq state p.key ≡ Some p) state here some_ in
        let o = is_there (found eq state j) there in
        inr (unheld j p.0 w (ap is_some (less_found j o.0 off o.1))
        (less_found p.0.key p.0 (not_true (among eq old p.0.key) (and_right (holds eq j p.0) _ p.1)) p.2) (and_left (holds eq j p.0) _ p.1)
        (λ i q at holds_q.
        let two = found_less i q at in
        either (Goes eq weak less (d ∷ []) i) (λ a. refuted (among eq old i) a two.0) (λ b. b) (from_all i (all i q two.1 holds_q)))))
        (λ none_. inl ((old_tells j).1 (unheld j h w there is refers (λ i q at holds_q.
        let none_q = at_found eq sound (λ p. (holds eq j p && not (among eq old p.key)) ≡ false) state i q
        (any_none (λ p. holds eq j p && not (among eq old p.key)) state none_) at in
        (old_tells i).0 (by_cases (among eq old i ≡ true) (among eq old i) (λ on. on)
        (λ off_i. refuted (holds eq j q && not (among eq old q.key))
        (and_two (holds eq j q) _ holds_q (ap not (sym (ap (among eq old) none_q.1) ∙ off_i))) none_q.0)))))))

    -- a delete is taken, if nothing that stays refers to what goes
    pub one_sent : (takes : Thing K C → Thing K C → Bool) → weak d ≡ false → has eq state d ≡ true → among eq old d ≡ false
        → AllByRecursion (λ o. among eq new o.key ≡ false → list_any (among eq new) o.refers ≡ false) state
        → Sends eq weak takes less (Delete d) (filter (λ o. not (among eq new o.key)) state)
    one_sent takes strong there off free =
        let o = is_there (found eq state d) there in (
          strong,
          ap is_some (less_found d o.0 off o.1),
          (
            among eq new,
            all_filtered (λ p. (among eq new p.key ≡ true → Goes eq weak less (d ∷ []) p.key) × (Goes eq weak less (d ∷ []) p.key → among eq new p.key ≡ true))
                (λ p. not (among eq old p.key)) state
                (each_of (λ (p : Thing K C). not (among eq old p.key) ≡ true → (among eq new p.key ≡ true → Goes eq weak less (d ∷ []) p.key)
                × (Goes eq weak less (d ∷ []) p.key → among eq new p.key ≡ true))
                (λ p stays. (
                  (λ on. either (Goes eq weak less (d ∷ []) p.key) (λ a. refuted (among eq old p.key) a (not_true (among eq old p.key) stays)) (λ b. b)
                      (from_all p.key ((new_tells p.key).0 on))),
                  (λ along. (new_tells p.key).1 (to_all p.key along)),
                )) state),
            all_filtered (λ p. among eq new p.key ≡ false → list_any (among eq new) p.refers ≡ false) (λ p. not (among eq old p.key)) state
                (all_by (λ p. among eq new p.key ≡ false → list_any (among eq new) p.refers ≡ false)
                (λ p. not (among eq old p.key) ≡ true → among eq new p.key ≡ false → list_any (among eq new) p.refers ≡ false)
                (λ p turn _. turn) state free),
            filter_twice (λ (p : Thing K C). not (among eq old p.key)) (λ (p : Thing K C). not (among eq new p.key))
                (λ p stays. ap not (is_false (among eq old p.key)
                (λ on. refuted (among eq new p.key) ((new_tells p.key).1 (old_new p.key ((old_tells p.key).0 on))) (not_true (among eq new p.key) stays)))) state,
          ),
        )

  -- ---- the removers of what a delete waits for

  module _ (find : K → Option K) where
    find_first : (j : K) (ns : List K) → first_by find ns ≡ Some j → (u : K) × (among eq ns u ≡ true) × (find u ≡ Some j)
    find_first j [] at = absurd (cc at)
    find_first j (m ∷ ns) at = by_find (λ more. find_first j ns more) (find m) refl at
      where
        by_find : (first_by find ns ≡ Some j → (u : K) × (among eq ns u ≡ true) × (find u ≡ Some j)) → (q : Option K) → find m ≡ q
            → or_else q (first_by find ns) ≡ Some j → (u : K) × (among eq (m ∷ ns) u ≡ true) × (find u ≡ Some j)
        by_find deeper (Some x) here at = (m, or_first (eq m m) _ (same m), here ∙ at)
        by_find deeper None here at = let rest = deeper at in (rest.0, or_second (eq rest.0 m) _ rest.1, rest.2)

  module _ (find : K → Option K) (o : Thing K C) (j : K) (is : remover_of eq weak find o ≡ Some j) where
    two_ways : (first_by find o.under ≡ Some j) × ((is_all_by eq find j o.under && is_all_but eq weak find j o.refers) ≡ true)
    two_ways = by_first (first_by find o.under) refl is
      where
        by_test : (x : K) (b : Bool) → (is_all_by eq find x o.under && is_all_but eq weak find x o.refers) ≡ b → cond b (Some x) None ≡ Some j
            → (x ≡ j) × ((is_all_by eq find j o.under && is_all_but eq weak find j o.refers) ≡ true)
        by_test x false off at = absurd (cc at)
        by_test x true on at =
            let e : x ≡ j = cc at in
            (e, ap (λ y. is_all_by eq find y o.under && is_all_but eq weak find y o.refers) (sym e) ∙ on)

        by_first : (q : Option K) → first_by find o.under ≡ q → only_by eq weak find o q ≡ Some j
            → (first_by find o.under ≡ Some j) × ((is_all_by eq find j o.under && is_all_but eq weak find j o.refers) ≡ true)
        by_first None here at = absurd (cc at)
        by_first (Some x) here at =
            let two = by_test x (is_all_by eq find x o.under && is_all_but eq weak find x o.refers) refl at in
            (here ∙ ap Some two.0, two.1)

    pub under_one : (u : K) × (among eq o.under u ≡ true) × (find u ≡ Some j)
    under_one = find_first find j o.under two_ways.0

    pub under_each : (n x : K) → among eq o.under n ≡ true → find n ≡ Some x → j ≡ x
    under_each n x there at =
        sound j x (sym (ap (λ q. eq j (unwrap_or q j)) at)
        ∙ all_at eq sound same (λ k. eq j (unwrap_or (find k) j)) o.under n (and_left (is_all_by eq find j o.under) _ two_ways.1) there)

    pub refers_each : (n x : K) → among eq o.refers n ≡ true → weak n ≡ false → find n ≡ Some x → j ≡ x
    refers_each n x there strong at =
        sound j x (sym (ap (λ b. b || eq j (unwrap_or (find n) j)) strong ∙ ap (λ q. eq j (unwrap_or q j)) at)
        ∙ all_at eq sound same (λ k. weak k || eq j (unwrap_or (find k) j)) o.refers n (and_right (is_all_by eq find j o.under) _ two_ways.1) there)

  -- ---- all that goes, and its removers

  module _ (fit : Thing K C → Thing K C → Bool) (want : List (Thing K C)) (gone : K → Bool) (find : K → Option K)
      (here : AllByRecursion (λ o. found eq state o.key ≡ Some o) state) (order : ready eq [] state ≡ true) (is_set : settled eq weak state [] state ≡ true)
      (lost : AllByRecursion (λ o. gone o.key ≡ goes eq weak fit state want gone o) state)
      (removed : AllByRecursion (Removed eq sound same weak gone find) state) where
    abbrev pub asked_of : List (Thing K C) → List K
    asked_of rest = asked_all eq sound same weak gone find rest

    abbrev pub is_own : Thing K C → Bool
    is_own o = is_asked eq sound same weak gone find o

    needs_of : (o : Thing K C) (n : K) → among eq o.under n ≡ true → among eq (needs o) n ≡ true
    needs_of o n is = list_any-append (eq n) o.under o.refers ∙ or_first (among eq o.under n) _ is

    refers_of : (o : Thing K C) (n : K) → among eq o.refers n ≡ true → among eq (needs o) n ≡ true
    refers_of o n is = list_any-append (eq n) o.under o.refers ∙ or_second (among eq o.under n) _ is

    key_of_found : (k : K) (o : Thing K C) → found eq state k ≡ Some o → k ≡ o.key
    key_of_found k o at = (at_found eq sound (λ p. found eq state p.key ≡ Some p) state k o here at).1

    pub needs_there : (k : K) (o : Thing K C) → found eq state k ≡ Some o → (n : K) → among eq (needs o) n ≡ true → has eq state n ≡ true
    needs_there k o at n need =
        let in_all = at_found eq sound (λ o. among eq (passed [] state) o.key ≡ true → (n : K) → among eq (needs o) n ≡ true
        → among eq (passed [] state) n ≡ true) state k o
        (needs_in eq sound same weak state state [] (append-nil state) order is_set) at in
        sym (passed_has eq [] state n)
        ∙ in_all.0 (passed_has eq [] state o.key ∙ ap (has eq state) (sym in_all.1) ∙ ap is_some at) n need

    gone_by : (k : K) (o : Thing K C) → found eq state k ≡ Some o → (list_any gone (needs o) || (weak o.key && not (held eq state gone o.key))) ≡ true
        → gone k ≡ true
    gone_by k o at is =
        let two = at_found eq sound (λ o. gone o.key ≡ goes eq weak fit state want gone o) state k o lost at in
        ap gone two.1 ∙ two.0 ∙ or_second (not (stays_by fit o (found eq want o.key))) _ is

    pub needs_gone : (k : K) (o : Thing K C) → found eq state k ≡ Some o → (n : K) → among eq (needs o) n ≡ true → gone n ≡ true → gone k ≡ true
    needs_gone k o at n need is = gone_by k o at (or_first (list_any gone (needs o)) _ (any_at eq sound same gone (needs o) n need is))

    unheld_gone : (k : K) (o : Thing K C) → found eq state k ≡ Some o → weak k ≡ true
        → ((i : K) (h : Thing K C) → found eq state i ≡ Some h → holds eq k h ≡ true → gone i ≡ true) → gone k ≡ true
    unheld_gone k o at w all =
        let e = key_of_found k o at in
        gone_by k o at (or_second (list_any gone (needs o)) _ (and_two (weak o.key) _ (ap weak (sym e) ∙ w)
        (ap not (is_false (held eq state gone o.key) (λ on.
        let h = any_one (λ h. not (gone h.key) && holds eq o.key h) (λ h. found eq state h.key ≡ Some h) state here on in
        refuted (gone h.0.key) (all h.0.key h.0 h.2 (ap (λ x. holds eq x h.0) e ∙ and_right (not (gone h.0.key)) _ h.1))
        (not_true (gone h.0.key) (and_left (not (gone h.0.key)) _ h.1)))))))

    weak_none : (k : K) (o : Thing K C) → found eq state k ≡ Some o → weak k ≡ true → (n : K) → among eq (needs o) n ≡ true → ⊥
    weak_none k o at w n need =
        let two = at_found eq sound (λ o. weak o.key ≡ true → ((n : K) → among eq (needs o) n ≡ true → ⊥) × (list_any (holds eq o.key) state ≡ true)) state k o
        (weak_held eq sound same weak state [] state is_set) at in
        (two.0 (ap weak (sym two.1) ∙ w)).0 n need

    pub weak_by : (k : K) (o : Thing K C) → found eq state k ≡ Some o → weak k ≡ true
        → (h : Thing K C) × (holds eq k h ≡ true) × (found eq state h.key ≡ Some h)
    weak_by k o at w =
        let two = at_found eq sound (λ o. weak o.key ≡ true → ((n : K) → among eq (needs o) n ≡ true → ⊥) × (list_any (holds eq o.key) state ≡ true)) state k o
        (weak_held eq sound same weak state [] state is_set) at in
        let h = any_one (holds eq o.key) (λ h. found eq state h.key ≡ Some h) state here (two.0 (ap weak (sym two.1) ∙ w)).1 in
        (h.0, ap (λ x. holds eq x h.0) two.1 ∙ h.1, h.2)

    -- what needs something isn't weak
    strong_by : (k : K) (o : Thing K C) → found eq state k ≡ Some o → (n : K) → among eq (needs o) n ≡ true → weak k ≡ false
    strong_by k o at n need = is_false (weak k) (λ w. weak_none k o at w n need)

    -- what goes along is gone
    pub goes_gone : (ks : List K) → ((k : K) → among eq ks k ≡ true → gone k ≡ true) → (j : K) → Goes eq weak state ks j → gone j ≡ true
    goes_gone ks base _ (itself j is) = base j is
    goes_gone ks base _ (below j o n is under along) = needs_gone j o is n (needs_of o n under) (goes_gone ks base n along)
    goes_gone ks base _ (unheld j h w there is refers all) =
        let o = is_there (found eq state j) there in
        unheld_gone j o.0 o.1 w (λ i p at holds_p. goes_gone ks base i (all i p at holds_p))

    -- the remover of an object that is there
    pub remover_at : (k : K) (o : Thing K C) → found eq state k ≡ Some o → gone k ≡ true → find k ≡ Some (unwrap_or (remover_of eq weak find o) k)
    remover_at k o at is =
        let two = at_found eq sound (Removed eq sound same weak gone find) state k o removed at in
        ap find two.1 ∙ two.0 ∙ ap (λ b. cond b (Some (unwrap_or (remover_of eq weak find o) o.key)) None) (ap gone (sym two.1) ∙ is)
        ∙ ap (λ x. Some (unwrap_or (remover_of eq weak find o) x)) (sym two.1)

    pub gone_at : (k : K) (o : Thing K C) (x : K) → found eq state k ≡ Some o → find k ≡ Some x → gone k ≡ true
    gone_at k o x at is = by_cases (gone k ≡ true) (gone k) (λ on. on)
        (λ off.
        let two = at_found eq sound (Removed eq sound same weak gone find) state k o removed at in
        absurd (cc (sym is ∙ ap find two.1 ∙ two.0 ∙ ap (λ b. cond b (Some (unwrap_or (remover_of eq weak find o) o.key)) None) (ap gone (sym two.1) ∙ off))))

    none_first : (o : Thing K C) → ((n : K) → among eq (needs o) n ≡ true → ⊥) → remover_of eq weak find o ≡ None
    none_first o none_ = by_remover (remover_of eq weak find o) refl
      where
        by_remover : (q : Option K) → remover_of eq weak find o ≡ q → q ≡ None
        by_remover None at = refl
        by_remover (Some j) at = let u = under_one find o j at in absurd (none_ u.0 (needs_of o u.0 u.1))

    -- what is weak removes itself
    weak_own : (k : K) (o : Thing K C) → found eq state k ≡ Some o → weak k ≡ true → gone k ≡ true → find k ≡ Some k
    weak_own k o at w is = remover_at k o at is ∙ ap (λ q. Some (unwrap_or q k)) (none_first o (weak_none k o at w))

    -- what goes with the remover of a key takes the key along
    sinks : (ks : List K) (before : List K) (rest : List (Thing K C)) → ready eq before rest ≡ true → AllByRecursion (λ o. found eq state o.key ≡ Some o) rest
        → ((k j : K) → among eq before k ≡ true → find k ≡ Some j → Goes eq weak state ks j → Goes eq weak state ks k)
        → AllByRecursion (λ o. (j : K) → find o.key ≡ Some j → Goes eq weak state ks j → Goes eq weak state ks o.key) rest
    sinks ks before [] is there old = tt
    sinks ks before (o ∷ rest) is there old = (
      own,
      sinks ks (o.key ∷ before) rest (and_right (is_next eq before o) _ is) there.1 (λ k j in_k at along.
          by_cases (Goes eq weak state ks k) (eq k o.key)
          (λ on. subst (Goes eq weak state ks) (sym (sound k o.key on)) (own j (ap find (sym (sound k o.key on)) ∙ at) along))
          (λ off. old k j (sym (ap (λ b. b || among eq before k) off) ∙ in_k) at along)),
    )
      where
        by_remover : (j : K) → find o.key ≡ Some j → Goes eq weak state ks j → (q : Option K) → remover_of eq weak find o ≡ q → Goes eq weak state ks o.key
        by_remover j at along None none_ =
            let e : o.key ≡ j = cc (sym (remover_at o.key o there.0 (gone_at o.key o j there.0 at) ∙ ap (λ q. Some (unwrap_or q o.key)) none_) ∙ at) in
            subst (Goes eq weak state ks) (sym e) along
        by_remover j at along (Some x) some_ =
            let e : x ≡ j = cc (sym (remover_at o.key o there.0 (gone_at o.key o j there.0 at) ∙ ap (λ q. Some (unwrap_or q o.key)) some_) ∙ at) in
            let u = under_one find o x some_ in
            below o.key o u.0 there.0 u.1
            (old u.0 j (all_at eq sound same (among eq before) (needs o) u.0 (and_right (not (among eq before o.key)) _ (and_left (is_next eq before o) _ is))
            (needs_of o u.0 u.1)) (u.2 ∙ ap Some e) along)

        own : (j : K) → find o.key ≡ Some j → Goes eq weak state ks j → Goes eq weak state ks o.key
        own j at along = by_remover j at along (remover_of eq weak find o) refl

    pub sink : (ks : List K) (k : K) (o : Thing K C) (j : K) → found eq state k ≡ Some o → find k ≡ Some j → Goes eq weak state ks j → Goes eq weak state ks k
    sink ks k o j at is along =
        let two = at_found eq sound (λ o. (j : K) → find o.key ≡ Some j → Goes eq weak state ks j → Goes eq weak state ks o.key) state k o
        (sinks ks [] state order here (λ i x there _ _. absurd (cc there))) at in
        subst (Goes eq weak state ks) (sym two.1) (two.0 j (ap find (sym two.1) ∙ is) along)

    -- an object goes by its own delete
    pub own_is : (k : K) (o : Thing K C) → found eq state k ≡ Some o → gone k ≡ true → weak k ≡ false → remover_of eq weak find o ≡ None → is_own o ≡ true
    own_is k o at is strong none_ =
        let e = key_of_found k o at in
        and_two (gone o.key) _ (ap gone (sym e) ∙ is)
        (ap (λ q. not (is_some q || weak o.key)) none_ ∙ ap not (ap weak (sym e) ∙ strong))

    pub own_none : (o : Thing K C) → is_own o ≡ true → (gone o.key ≡ true) × (weak o.key ≡ false) × (remover_of eq weak find o ≡ None)
    own_none o is =
        let off = not_true (is_along eq weak gone o (remover_of eq weak find o)) (and_right (gone o.key) _ is) in (
          and_left (gone o.key) _ is,
          or_right (is_some (remover_of eq weak find o)) _ off,
          none_of (remover_of eq weak find o) (or_left (is_some (remover_of eq weak find o)) _ off),
        )
      where
        none_of : (q : Option K) → is_some q ≡ false → q ≡ None
        none_of None is_ = refl
        none_of (Some x) is_ = absurd (cc is_)

    -- what is asked for of some objects
    pub asked_in : (rest : List (Thing K C)) (k : K) → among eq (asked_of rest) k ≡ true
        → (P : Thing K C → Type 0) → AllByRecursion P rest → (o : Thing K C) × (k ≡ o.key) × (is_own o ≡ true) × P o
    asked_in [] k is P there = absurd (cc is)
    asked_in (o ∷ rest) k is P there =
        either ((p : Thing K C) × (k ≡ p.key) × (is_own p ≡ true) × P p)
        (λ a. asked_in rest k a P there.1)
        (λ b. by_asked (is_own o) refl b)
        (or_either (among eq (asked_of rest) k) _ (sym (list_any-append (eq k) (asked_of rest) (cond (is_own o) (o.key ∷ []) [])) ∙ is))
      where
        by_asked : (b : Bool) → is_own o ≡ b → among eq (cond b (o.key ∷ []) []) k ≡ true → (p : Thing K C) × (k ≡ p.key) × (is_own p ≡ true) × P p
        by_asked true on one =
            (o, sound k o.key (either (eq k o.key ≡ true) (λ a. a) (λ b. absurd (cc b)) (or_either (eq k o.key) false one)), on, there.0)
        by_asked false off one = absurd (cc one)

    asked_has : (rest : List (Thing K C)) → AllByRecursion (λ o. is_own o ≡ true → among eq (asked_of rest) o.key ≡ true) rest
    asked_has [] = tt
    asked_has (o ∷ rest) = (
      (λ is. list_any-append (eq o.key) (asked_of rest) (cond (is_own o) (o.key ∷ []) [])
          ∙ or_second (among eq (asked_of rest) o.key) _
          (ap (λ b. among eq (cond b (o.key ∷ []) []) o.key) is ∙ or_first (eq o.key o.key) false (same o.key))),
      all_by (λ p. is_own p ≡ true → among eq (asked_of rest) p.key ≡ true) (λ p. is_own p ≡ true → among eq (asked_of (o ∷ rest)) p.key ≡ true)
          (λ p turn is. list_any-append (eq p.key) (asked_of rest) (cond (is_own o) (o.key ∷ []) [])
          ∙ or_first (among eq (asked_of rest) p.key) _ (turn is)) rest (asked_has rest),
    )

    -- ---- a front of the state, and the deletes of all after it

    module _ (front rest : List (Thing K C)) (all : front ++ rest ≡ state) where
      abbrev before : List K
      before = passed [] front

      abbrev ks : List K
      ks = asked_of rest

      rest_here : AllByRecursion (λ o. found eq state o.key ≡ Some o) rest
      rest_here = all_right (λ o. found eq state o.key ≡ Some o) front rest (subst (AllByRecursion (λ o. found eq state o.key ≡ Some o)) (sym all) here)

      new_of : AllByRecursion (λ o. among eq before o.key ≡ false) rest
      new_of = rest_fresh eq sound same before rest
          (and_right (ready eq [] front) _ (sym (ready-append eq [] front rest) ∙ ap (ready eq []) all ∙ order))

      own_of : (k : K) → among eq ks k ≡ true → (o : Thing K C) × (k ≡ o.key) × (is_own o ≡ true) × (found eq state o.key ≡ Some o)
      own_of k is = asked_in rest k is (λ o. found eq state o.key ≡ Some o) rest_here

      pub asked_gone : (k : K) → among eq ks k ≡ true → gone k ≡ true
      asked_gone k is = let o = own_of k is in ap gone o.1 ∙ (own_none o.0 o.2).0

      pub asked_strong : (k : K) → among eq ks k ≡ true → weak k ≡ false
      asked_strong k is = let o = own_of k is in ap weak o.1 ∙ (own_none o.0 o.2).1

      pub asked_there : (k : K) → among eq ks k ≡ true → has eq state k ≡ true
      asked_there k is = let o = own_of k is in ap (has eq state) o.1 ∙ ap is_some o.3

      asked_find : (k : K) → among eq ks k ≡ true → find k ≡ Some k
      asked_find k is =
          let o = own_of k is in
          remover_at k o.0 (ap (found eq state) o.1 ∙ o.3) (asked_gone k is) ∙ ap (λ q. Some (unwrap_or q k)) (own_none o.0 o.2).2

      asked_new : (k : K) → among eq ks k ≡ true → among eq before k ≡ false
      asked_new k is =
          let o = asked_in rest k is (λ o. among eq before o.key ≡ false) new_of in
          ap (among eq before) o.1 ∙ o.3

      -- an object after the front that goes by its own delete is asked for
      pub asked_after : (k : K) (o : Thing K C) → found eq state k ≡ Some o → is_own o ≡ true → among eq before k ≡ false → among eq ks k ≡ true
      asked_after k o at is out =
          let two = at_found eq sound (λ o. among eq before o.key ≡ false → is_own o ≡ true → among eq ks o.key ≡ true) state k o
          (subst (AllByRecursion (λ o. among eq before o.key ≡ false → is_own o ≡ true → among eq ks o.key ≡ true)) all
          (all_append (λ o. among eq before o.key ≡ false → is_own o ≡ true → among eq ks o.key ≡ true) front rest
          (all_by (λ o. among eq before o.key ≡ true) (λ o. among eq before o.key ≡ false → is_own o ≡ true → among eq ks o.key ≡ true)
          (λ o on off _. refuted (among eq before o.key) on off) front (own_there eq sound same [] front))
          (all_by (λ o. is_own o ≡ true → among eq ks o.key ≡ true) (λ o. among eq before o.key ≡ false → is_own o ≡ true → among eq ks o.key ≡ true)
          (λ o turn _. turn) rest (asked_has rest)))) at in
          ap (among eq ks) two.1 ∙ two.0 (ap (among eq before) (sym two.1) ∙ out) is

      in_front : (k : K) (o : Thing K C) → found eq state k ≡ Some o → (n : K) → among eq (needs o) n ≡ true → among eq before n ≡ false
          → among eq before k ≡ false
      in_front k o at n need out = is_false (among eq before k) (λ on.
          let two = at_found eq sound (λ o. among eq before o.key ≡ true → (n : K) → among eq (needs o) n ≡ true → among eq before n ≡ true) state k o
          (needs_in eq sound same weak state front rest all order is_set) at in
          refuted (among eq before n) (two.0 (ap (among eq before) (sym two.1) ∙ on) n need) out)

      -- what goes along comes after the front, and so does what is under it
      pub later : (j : K) → Goes eq weak state ks j
          → (weak j ≡ false → among eq before j ≡ false) × ((x : K) (o : Thing K C) → found eq state x ≡ Some o → among eq o.under j ≡ true
          → among eq before x ≡ false)
      later _ (itself j is) = ((λ _. asked_new j is), (λ x o at under. in_front x o at j (needs_of o j under) (asked_new j is)))
      later _ (below j o n is under along) =
          let out = (later n along).1 j o is under in
          ((λ _. out), (λ x p at under_j. in_front x p at j (needs_of p j under_j) out))
      later _ (unheld j h w there is refers all_go) = (
        (λ strong. refuted (weak j) w strong),
        (λ x o at under. is_false (among eq before x) (λ on.
            let two = at_found eq sound (λ o. among eq before o.key ≡ true → (v : K) → among eq o.under v ≡ true → among eq (unders front) v ≡ true) state x o
            (under_in eq sound same weak state front rest all order is_set) at in
            let holder = at_found eq sound (λ h. (v : K) → among eq (unders front) v ≡ true → weak v ≡ true → holds eq v h ≡ true
            → among eq before h.key ≡ true) state h.key h (holds_in eq sound same weak state front rest all order is_set) is in
            refuted (among eq before h.key) (holder.0 j (two.0 (ap (among eq before) (sym two.1) ∙ on) j under) w refers)
            ((later h.key (all_go h.key h is refers)).0 (strong_by h.key h is j (refers_of h j refers))))),
      )

      -- the remover of what goes along is asked for, or weak and goes along too
      abbrev Remover : K → Type 0
      Remover j = (x : K) × (find j ≡ Some x) × Goes eq weak state ks x

      remover_along : (j : K) → Goes eq weak state ks j → weak j ≡ false → Remover j
      remover_along _ (itself j is) strong = (j, asked_find j is, itself j is)
      remover_along _ (unheld j h w there is refers all_go) strong = refuted (weak j) w strong
      remover_along _ (below j o n is under along) strong = by_remover (λ n_strong. remover_along n along n_strong) (remover_of eq weak find o) refl
        where
          is_gone : gone j ≡ true
          is_gone = needs_gone j o is n (needs_of o n under) (goes_gone ks asked_gone n along)

          by_weak : (x : K) → find j ≡ Some x → ((y : K) → find n ≡ Some y → x ≡ y) → (weak n ≡ false → (y : K) × (find n ≡ Some y) × Goes eq weak state ks y)
              → (x : K) × (find j ≡ Some x) × Goes eq weak state ks x
          by_weak x at one deeper =
              let there = is_there (found eq state n) (needs_there j o is n (needs_of o n under)) in
              by_cases ((x : K) × (find j ≡ Some x) × Goes eq weak state ks x) (weak n)
              (λ w. (x, at, subst (Goes eq weak state ks) (sym (one n (weak_own n there.0 there.1 w (goes_gone ks asked_gone n along)))) along))
              (λ n_strong. let r = deeper n_strong in (x, at, subst (Goes eq weak state ks) (sym (one r.0 r.1)) r.2))

          by_remover : (weak n ≡ false → (y : K) × (find n ≡ Some y) × Goes eq weak state ks y) → (q : Option K) → remover_of eq weak find o ≡ q
              → (x : K) × (find j ≡ Some x) × Goes eq weak state ks x
          by_remover deeper None none_ = (
            j,
            remover_at j o is is_gone ∙ ap (λ q. Some (unwrap_or q j)) none_,
            below j o n is under along,
          )
          by_remover deeper (Some x) some_ =
              by_weak x (remover_at j o is is_gone ∙ ap (λ q. Some (unwrap_or q j)) some_)
              (λ y at. under_each find o x some_ n y under at) deeper

      -- what refers to something that goes along goes along
      pub closed : (k : K) (o : Thing K C) → found eq state k ≡ Some o → (n : K) → among eq o.refers n ≡ true → Goes eq weak state ks n
          → Goes eq weak state ks k
      closed k o at n refers along = by_cases (Goes eq weak state ks k) (weak n) (λ w. by_weak w n along refl) by_strong
        where
          by_weak : weak n ≡ true → (m : K) → Goes eq weak state ks m → m ≡ n → Goes eq weak state ks k
          by_weak w _ (itself m is) e = refuted (weak n) w (ap weak (sym e) ∙ asked_strong m is)
          by_weak w _ (below m p u is under more) e = absurd (weak_none m p is (ap weak e ∙ w) u (needs_of p u under))
          by_weak w _ (unheld m h v there is at_refers all_go) e = all_go k o at (ap (among eq o.refers) e ∙ refers)

          by_strong : weak n ≡ false → Goes eq weak state ks k
          by_strong strong = by_remover (remover_of eq weak find o) refl
            where
              is_gone : gone k ≡ true
              is_gone = needs_gone k o at n (refers_of o n refers) (goes_gone ks asked_gone n along)

              by_remover : (q : Option K) → remover_of eq weak find o ≡ q → Goes eq weak state ks k
              by_remover None none_ =
                  itself k (asked_after k o at (own_is k o at is_gone (strong_by k o at n (refers_of o n refers)) none_)
                  (in_front k o at n (refers_of o n refers) ((later n along).0 strong)))
              by_remover (Some j) some_ =
                  let r = remover_along n along strong in
                  sink ks k o j at (remover_at k o at is_gone ∙ ap (λ q. Some (unwrap_or q k)) some_)
                  (subst (Goes eq weak state ks) (sym (refers_each find o j some_ n r.0 refers strong r.1)) r.2)

    -- ---- all deletes

    needs_before : (front : List (Thing K C)) (o : Thing K C) (rest : List (Thing K C)) → front ++ o ∷ rest ≡ state → (n : K) → among eq (needs o) n ≡ true
        → among eq (passed [] front) n ≡ true
    needs_before front o rest all n need =
        let after = and_right (ready eq [] front) _ (sym (ready-append eq [] front (o ∷ rest)) ∙ ap (ready eq []) all ∙ order) in
        all_at eq sound same (among eq (passed [] front)) (needs o) n
        (and_right (not (among eq (passed [] front) o.key)) _ (and_left (is_next eq (passed [] front) o) _ after)) need

    -- all that goes and isn't weak goes along, an object after another
    fall : (front rest : List (Thing K C)) → front ++ rest ≡ state → AllByRecursion (λ o. found eq state o.key ≡ Some o) rest
        → ((k : K) (o : Thing K C) → among eq (passed [] front) k ≡ true → found eq state k ≡ Some o → gone k ≡ true → weak k ≡ false
        → Goes eq weak state (asked_of state) k)
        → AllByRecursion (λ o. gone o.key ≡ true → weak o.key ≡ false → Goes eq weak state (asked_of state) o.key) rest
    fall front [] all there old = tt
    fall front (o ∷ rest) all there old = (
      own,
      fall (front ++ o ∷ []) rest (append_assoc front (o ∷ []) rest ∙ all) there.1 (λ k p in_k at is strong.
          by_cases (Goes eq weak state (asked_of state) k) (eq k o.key)
          (λ on. subst (Goes eq weak state (asked_of state)) (sym (sound k o.key on))
          (own (ap gone (sym (sound k o.key on)) ∙ is) (ap weak (sym (sound k o.key on)) ∙ strong)))
          (λ off. old k p (sym (ap (λ b. b || among eq (passed [] front) k) off) ∙ ap (λ l. among eq l k) (sym (passed-push [] front o)) ∙ in_k) at is strong)),
    )
      where
        by_weak : (j u : K) → among eq o.under u ≡ true → find u ≡ Some j → Goes eq weak state (asked_of state) u
        by_weak j u under at_u =
            let p = is_there (found eq state u) (needs_there o.key o there.0 u (needs_of o u under)) in
            let u_gone : gone u ≡ true = gone_at u p.0 j p.1 at_u in
            by_cases (Goes eq weak state (asked_of state) u) (weak u)
            (λ w.
            let h = weak_by u p.0 p.1 w in
            unheld u h.0 w (ap is_some p.1) h.2 h.1 (λ i q at holds_q.
            let two = at_found eq sound (λ h. holds eq u h ≡ true → among eq (passed [] front) h.key ≡ true) state i q
            (holds_before eq sound same weak state front o rest all order is_set u under w) at in
            old i q (ap (among eq (passed [] front)) two.1 ∙ two.0 holds_q) at (needs_gone i q at u (refers_of q u holds_q) u_gone)
            (strong_by i q at u (refers_of q u holds_q))))
            (λ strong. old u p.0 (needs_before front o rest all u (needs_of o u under)) p.1 u_gone strong)

        by_remover : gone o.key ≡ true → weak o.key ≡ false → (q : Option K) → remover_of eq weak find o ≡ q → Goes eq weak state (asked_of state) o.key
        by_remover is strong None none_ = itself o.key (asked_after [] state refl o.key o there.0 (own_is o.key o there.0 is strong none_) refl)
        by_remover is strong (Some j) some_ = let u = under_one find o j some_ in below o.key o u.0 there.0 u.1 (by_weak j u.0 u.1 u.2)

        own : gone o.key ≡ true → weak o.key ≡ false → Goes eq weak state (asked_of state) o.key
        own is strong = by_remover is strong (remover_of eq weak find o) refl

    pub all_go : (k : K) (o : Thing K C) → found eq state k ≡ Some o → gone k ≡ true → Goes eq weak state (asked_of state) k
    all_go k o at is = by_cases (Goes eq weak state (asked_of state) k) (weak k)
        (λ w.
        let h = weak_by k o at w in
        unheld k h.0 w (ap is_some at) h.2 h.1 (λ i q at_i holds_q.
        strong_go i q at_i (needs_gone i q at_i k (refers_of q k holds_q) is) (strong_by i q at_i k (refers_of q k holds_q))))
        (λ strong. strong_go k o at is strong)
      where
        strong_go : (i : K) (q : Thing K C) → found eq state i ≡ Some q → gone i ≡ true → weak i ≡ false → Goes eq weak state (asked_of state) i
        strong_go i q at_i is_i strong =
            let two = at_found eq sound (λ o. gone o.key ≡ true → weak o.key ≡ false → Goes eq weak state (asked_of state) o.key) state i q
            (fall [] state refl here (λ x p there _ _ _. absurd (cc there))) at_i in
            subst (Goes eq weak state (asked_of state)) (sym two.1) (two.0 (ap gone (sym two.1) ∙ is_i) (ap weak (sym two.1) ∙ strong))

    -- what is left after the deletes of all that comes after a front is whole
    module _ (front rest : List (Thing K C)) (all : front ++ rest ≡ state) (away : List K)
        (tells : Tells eq sound same weak state here (asked_of rest) away) where
      free_needs : AllByRecursion (λ p. among eq away p.key ≡ false → list_any (among eq away) (needs p) ≡ false) state
      free_needs = all_by (λ p. found eq state p.key ≡ Some p) (λ p. among eq away p.key ≡ false → list_any (among eq away) (needs p) ≡ false)
          (λ p at off. none_each eq sound same (among eq away) (needs p) (λ n need. is_false (among eq away n) (λ on.
          refuted (among eq away p.key)
          ((tells p.key).1 (either (Goes eq weak state (asked_of rest) p.key)
          (λ under. below p.key p n at under ((tells n).0 on))
          (λ refers. closed front rest all p.key p at n refers ((tells n).0 on))
          (or_either (among eq p.under n) _ (sym (list_any-append (eq n) p.under p.refers) ∙ need)))) off))) state here

      free_refers : AllByRecursion (λ p. among eq away p.key ≡ false → list_any (among eq away) p.refers ≡ false) state
      free_refers = all_by (λ p. among eq away p.key ≡ false → list_any (among eq away) (needs p) ≡ false)
          (λ p. among eq away p.key ≡ false → list_any (among eq away) p.refers ≡ false)
          (λ p turn off. or_right (list_any (among eq away) p.under) _ (sym (list_any-append (among eq away) p.under p.refers) ∙ turn off)) state free_needs

      whole_left : IsWhole eq (filter (λ o. not (among eq away o.key)) state)
      whole_left = whole_ready eq sound same (filter (λ o. not (among eq away o.key)) state)
          (kept_ready eq sound same (among eq away) [] [] state order free_needs (λ k t. t) (λ k t _. t))

    module _ (takes : Thing K C → Thing K C → Bool) where
      -- deletes of these keys lead to what is left
      abbrev Run : List K → Type 0
      Run keys = (away : List K) × Tells eq sound same weak state here keys away
          × RunsWhole eq weak takes state (map Delete keys) (filter (λ o. not (among eq away o.key)) state)

      run : (front rest : List (Thing K C)) → front ++ rest ≡ state → AllByRecursion (λ o. found eq state o.key ≡ Some o) rest → Run (asked_of rest)
      run front [] all there =
          let t = told eq sound same weak state here [] in (
            t.0,
            t.1,
            subst (RunsWhole eq weak takes state [])
                (sym (filter_true (λ o. not (among eq t.0 o.key)) state
                (each_of (λ (o : Thing K C). not (among eq t.0 o.key) ≡ true) (λ o. ap not (is_false (among eq t.0 o.key)
                (λ on. none_go eq sound same weak state o.key ((t.1 o.key).0 on)))) state)))
                (none state (whole_ready eq sound same state order)),
          )
      run front (o ∷ rest) all there = by_own (run (front ++ o ∷ []) rest shift there.1) (is_own o) refl
        where
          shift : (front ++ o ∷ []) ++ rest ≡ state
          shift = append_assoc front (o ∷ []) rest ∙ all

          by_own : Run (asked_of rest) → (b : Bool) → is_own o ≡ b → Run (asked_of (o ∷ rest))
          by_own before false off =
              subst Run (sym (ap (λ b. asked_of rest ++ cond b (o.key ∷ []) []) off ∙ append-nil (asked_of rest))) before
          by_own before true on =
              let e : asked_of (o ∷ rest) ≡ asked_of rest ++ o.key ∷ [] = ap (λ b. asked_of rest ++ cond b (o.key ∷ []) []) on in
              let new = told eq sound same weak state here (asked_of (o ∷ rest)) in
              let left = filter (λ p. not (among eq before.0 p.key)) state in
              let strong = (own_none o on).1 in
              let step : Sends eq weak takes left (Delete o.key) (filter (λ p. not (among eq new.0 p.key)) state) =
              one_sent here (asked_of rest) o.key before.0 new.0 before.1
              (subst (λ l. Tells eq sound same weak state here l new.0) e new.1) takes strong (ap is_some there.0)
              (is_false (among eq before.0 o.key) (λ gone_. refuted (among eq (passed [] (front ++ o ∷ [])) o.key)
              (ap (λ l. among eq l o.key) (passed-push [] front o) ∙ or_first (eq o.key o.key) _ (same o.key))
              ((later (front ++ o ∷ []) rest shift o.key ((before.1 o.key).0 gone_)).0 strong)))
              (free_refers front (o ∷ rest) all new.0 new.1) in (
                new.0,
                new.1,
                subst (λ l. RunsWhole eq weak takes state (map Delete l) (filter (λ p. not (among eq new.0 p.key)) state)) (sym e)
                    (subst (λ l. RunsWhole eq weak takes state l (filter (λ p. not (among eq new.0 p.key)) state))
                    (sym (map-append Delete (asked_of rest) (o.key ∷ [])))
                    (runs-append eq weak takes state left (filter (λ p. not (among eq new.0 p.key)) state) (map Delete (asked_of rest)) (Delete o.key ∷ [])
                    before.2
                    (next left (Delete o.key) (filter (λ p. not (among eq new.0 p.key)) state) [] (filter (λ p. not (among eq new.0 p.key)) state)
                    (whole_left (front ++ o ∷ []) rest shift before.0 before.1) step
                    (none (filter (λ p. not (among eq new.0 p.key)) state) (whole_left front (o ∷ rest) all new.0 new.1))))),
              )

      -- deletes lead to what stays
      pub drops : RunsWhole eq weak takes state (map Delete (asked_of state)) (filter (λ o. not (gone o.key)) state)
      drops =
          let all = run [] state refl here in
          subst (RunsWhole eq weak takes state (map Delete (asked_of state)))
          (filter_same (λ o. not (among eq all.0 o.key)) (λ o. not (gone o.key)) state
          (all_by (λ o. found eq state o.key ≡ Some o) (λ o. not (among eq all.0 o.key) ≡ not (gone o.key))
          (λ o at. ap not (bool_same (among eq all.0 o.key) (gone o.key)
          (λ on. goes_gone (asked_of state) (asked_gone [] state refl) o.key ((all.1 o.key).0 on))
          (λ on. (all.1 o.key).1 (all_go o.key o at on)))) state here))
          all.2

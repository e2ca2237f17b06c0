-- What is lost of a state: the least that goes.
use Rattle.std.proofs.Common.{◌≡◌, suc, map, ◌<◌, ◌≤◌, length, Bool, true, false, not, cond, ◌&&◌, ◌||◌, List, [], ◌∷◌, ◌++◌, Some, refl, sym, ap}
use Rattle.std.proofs.Common.{◌∙◌, arith, append-nil, append_assoc}
use Rattle.std.specs.Prelude.{filter}
use Rattle.std.specs.List.{list_any, list_all, AllByRecursion}
use Rattle.std.proofs.lemmas.List.Folds.{list_any-append}
use Rattle.tc_changes.specs.Model.{needs, among, found, unders}
use Rattle.tc_changes.specs.Requests.{holds, is_settled, settled}
use Rattle.tc_changes.specs.Plans.{CanStay}
use Rattle.tc_changes.specs.Planned.{stays_by, held, goes_by, goes, count, IsLost, IsRound}
use Rattle.tc_changes.specs.Objects.{KernelThing, same_key}
use Rattle.tc_changes.specs.declared.key.Key.{Key}
use Rattle.tc_changes.proofs.Equal.{key_is, key_same}
use Rattle.tc_changes.proofs.Lookups.{and_left, and_right, or_first, or_second, and_two, by_cases, either, or_either, refuted, is_false, not_true}
use Rattle.tc_changes.proofs.Lookups.{all_append, all_by, all_at, any_one, any_at, any_find, any_found, none_each}

-- all that the objects refer to that aren't gone
abbrev pub refs : (Key → Bool) → List KernelThing → List Key
refs gone [] = []
refs gone (o ∷ state) = cond (not (gone o.key)) (o.refers ++ refs gone state) (refs gone state)

refs_step : (b : Bool) (ns more : List Key) (k : Key) → among same_key (cond b (ns ++ more) more) k ≡ ((b && among same_key ns k) || among same_key more k)
refs_step true ns more k = list_any-append (same_key k) ns more
refs_step false ns more k = refl

pub refs_are : (gone : Key → Bool) (state : List KernelThing) (k : Key) → among same_key (refs gone state) k ≡ held same_key state gone k
refs_are gone [] k = refl
refs_are gone (o ∷ state) k =
    refs_step (not (gone o.key)) o.refers (refs gone state) k
    ∙ ap (λ b. (not (gone o.key) && among same_key o.refers k) || b) (refs_are gone state k)

pub refs-push : (gone : Key → Bool) (state : List KernelThing) (x : KernelThing)
    → refs gone (state ++ x ∷ []) ≡ cond (not (gone x.key)) (refs gone state ++ x.refers) (refs gone state)
refs-push gone [] x = by_gone (not (gone x.key))
  where
    append_none : (ns : List Key) → ns ++ [] ≡ ns
    append_none [] = refl
    append_none (n ∷ ns) = ap (λ l. n ∷ l) (append_none ns)

    by_gone : (b : Bool) → cond b (x.refers ++ []) [] ≡ cond b ([] ++ x.refers) []
    by_gone true = append_none x.refers
    by_gone false = refl
refs-push gone (o ∷ state) x = by_gone (not (gone o.key)) (not (gone x.key)) (refs gone state) (refs gone (state ++ x ∷ [])) (refs-push gone state x)
  where
    append_three : (a b c : List Key) → a ++ (b ++ c) ≡ (a ++ b) ++ c
    append_three [] b c = refl
    append_three (n ∷ a) b c = ap (λ l. n ∷ l) (append_three a b c)

    by_gone : (b c : Bool) (less more : List Key) → more ≡ cond c (less ++ x.refers) less
        → cond b (o.refers ++ more) more ≡ cond c (cond b (o.refers ++ less) less ++ x.refers) (cond b (o.refers ++ less) less)
    by_gone true true less more is = ap (λ l. o.refers ++ l) is ∙ append_three o.refers less x.refers
    by_gone true false less more is = ap (λ l. o.refers ++ l) is
    by_gone false true less more is = is
    by_gone false false less more is = is

-- all objects refer if none is gone
pub held_none : (gone : Key → Bool) → ((k : Key) → gone k ≡ false) → (state : List KernelThing) (k : Key)
    → held same_key state gone k ≡ list_any (holds same_key k) state
held_none gone none [] k = refl
held_none gone none (o ∷ state) k =
    ap (λ b. (not b && among same_key o.refers k) || held same_key state gone k) (none o.key)
    ∙ ap (λ b. among same_key o.refers k || b) (held_none gone none state k)

-- ---- the weak objects of a state in order

and_assoc : (a b c : Bool) → (a && (b && c)) ≡ ((a && b) && c)
and_assoc true b c = refl
and_assoc false b c = refl

module _ (weak : Key → Bool) (all : List KernelThing) where
  pub settled-append : (before : List Key) (a b : List KernelThing)
      → settled same_key weak all before (a ++ b) ≡ (settled same_key weak all before a && settled same_key weak all (before ++ unders a) b)
  settled-append before [] b = ap (λ l. settled same_key weak all l b) (sym (append-nil before))
  settled-append before (o ∷ a) b =
      ap (λ r. is_settled same_key weak all (before ++ o.under) o && r)
      (settled-append (before ++ o.under) a b
      ∙ ap (λ l. settled same_key weak all (before ++ o.under) a && settled same_key weak all l b) (append_assoc before o.under (unders a)))
      ∙ and_assoc (is_settled same_key weak all (before ++ o.under) o) (settled same_key weak all (before ++ o.under) a)
      (settled same_key weak all (before ++ (o.under ++ unders a)) b)

pub unders-push : (front : List KernelThing) (x : KernelThing) → unders (front ++ x ∷ []) ≡ unders front ++ x.under
unders-push [] x = append-nil x.under
unders-push (o ∷ front) x = ap (λ l. o.under ++ l) (unders-push front x) ∙ sym (append_assoc o.under (unders front) x.under)

-- ---- how many are gone

module _ (g h : Key → Bool) (more : (k : Key) → g k ≡ true → h k ≡ true) where
  mono_step : (b c : Bool) (o : KernelThing) (F G : List KernelThing) → (b ≡ true → c ≡ true) → length F ≤ length G
      → length (cond b (o ∷ F) F) ≤ length (cond c (o ∷ G) G)
  mono_step true true o F G turn is = omega (arith, is)
  mono_step true false o F G turn is = absurd (cc (turn refl))
  mono_step false true o F G turn is = omega (arith, is)
  mono_step false false o F G turn is = is

  count_more : (s : List KernelThing) → count g s ≤ count h s
  count_more [] = omega (arith)
  count_more (o ∷ s) = mono_step (g o.key) (h o.key) o (filter (λ p. g p.key) s) (filter (λ p. h p.key) s) (more o.key) (count_more s)

  grow_step : (b c : Bool) (o : KernelThing) (F G : List KernelThing) → (b ≡ true → c ≡ true) → length F < length G
      → length (cond b (o ∷ F) F) < length (cond c (o ∷ G) G)
  grow_step true true o F G turn is = omega (arith, is)
  grow_step true false o F G turn is = absurd (cc (turn refl))
  grow_step false true o F G turn is = omega (arith, is)
  grow_step false false o F G turn is = is

  new_step : (b c : Bool) (o : KernelThing) (F G : List KernelThing) → b ≡ false → c ≡ true → length F ≤ length G
      → length (cond b (o ∷ F) F) < length (cond c (o ∷ G) G)
  new_step true c o F G off on is = absurd (cc off)
  new_step false false o F G off on is = absurd (cc on)
  new_step false true o F G off on is = omega (arith, is)

  count_grows : (s : List KernelThing) → list_any (λ o. not (g o.key) && h o.key) s ≡ true → count g s < count h s
  count_grows [] is = absurd (cc is)
  count_grows (o ∷ s) is =
      either (count g (o ∷ s) < count h (o ∷ s))
      (λ here. new_step (g o.key) (h o.key) o (filter (λ p. g p.key) s) (filter (λ p. h p.key) s) (not_true (g o.key) (and_left (not (g o.key)) _ here))
      (and_right (not (g o.key)) _ here) (count_more s))
      (λ there. grow_step (g o.key) (h o.key) o (filter (λ p. g p.key) s) (filter (λ p. h p.key) s) (more o.key) (count_grows s there))
      (or_either (not (g o.key) && h o.key) _ is)

module _ (g : Key → Bool) where
  count_within : (s : List KernelThing) → count g s ≤ length s
  count_within [] = omega (arith)
  count_within (o ∷ s) = by_gone (g o.key) (filter (λ p. g p.key) s) (count_within s)
    where
      by_gone : (b : Bool) (F : List KernelThing) → length F ≤ length s → length (cond b (o ∷ F) F) ≤ length (o ∷ s)
      by_gone true F is = omega (arith, is)
      by_gone false F is = omega (arith, is)

  pub all_gone : (s : List KernelThing) → length s ≤ count g s → AllByRecursion (λ o. g o.key ≡ true) s
  all_gone [] is = tt
  all_gone (o ∷ s) is = by_gone (all_gone s) (g o.key) refl is
    where
      by_gone : (length s ≤ count g s → AllByRecursion (λ p. g p.key ≡ true) s) → (b : Bool) → g o.key ≡ b
          → length (o ∷ s) ≤ length (cond b (o ∷ filter (λ p. g p.key) s) (filter (λ p. g p.key) s)) → AllByRecursion (λ p. g p.key ≡ true) (o ∷ s)
      by_gone deeper true on long = (on, deeper (omega (arith, long)))
      by_gone deeper false off long = absurd (omega (arith, long, count_within s))

both_of : (P Q : KernelThing → Type 0) (s : List KernelThing) → AllByRecursion P s → AllByRecursion Q s → AllByRecursion (λ o. P o × Q o) s
both_of P Q [] one two = tt
both_of P Q (o ∷ s) one two = ((one.0, two.0), both_of P Q s one.1 two.1)

-- ---- a round

module _ (weak : Key → Bool) (fit : KernelThing → KernelThing → Bool) (state want : List KernelThing)
    (here : AllByRecursion (λ o. found same_key state o.key ≡ Some o) state) where
  abbrev Goes : (Key → Bool) → (Key → Bool) → KernelThing → Bool
  Goes gone hold o = goes_by same_key weak fit want gone hold o

  abbrev hold_of : (Key → Bool) → Key → Bool
  hold_of gone = held same_key state gone

  hold_less : (g h : Key → Bool) → ((k : Key) → g k ≡ true → h k ≡ true) → (k : Key) → hold_of h k ≡ true → hold_of g k ≡ true
  hold_less g h more k is =
      let p = any_one (λ p. not (h p.key) && holds same_key k p) (λ p. found same_key state p.key ≡ Some p) state here is in
      any_found same_key key_is (λ p. not (g p.key) && holds same_key k p) state p.0.key p.0 p.2
      (and_two (not (g p.0.key)) _ (ap not (is_false (g p.0.key) (λ on. refuted (h p.0.key) (more p.0.key on)
      (not_true (h p.0.key) (and_left (not (h p.0.key)) _ p.1)))))
      (and_right (not (h p.0.key)) _ p.1))

  -- what had to go has to go when more is gone
  goes_more : (g h a b : Key → Bool) → ((k : Key) → g k ≡ true → h k ≡ true) → ((k : Key) → b k ≡ true → a k ≡ true) → (o : KernelThing)
      → Goes g a o ≡ true → Goes h b o ≡ true
  goes_more g h a b more less o is =
      either (Goes h b o ≡ true) (λ off. or_first (not (stays_by fit o (found same_key want o.key))) _ off)
      (λ rest. or_second (not (stays_by fit o (found same_key want o.key))) _
      (either ((list_any h (needs o) || (weak o.key && not (b o.key))) ≡ true)
      (λ need. let n = any_find same_key key_is key_same g (needs o) need in
      or_first (list_any h (needs o)) _ (any_at same_key key_is key_same h (needs o) n.0 n.1 (more n.0 n.2)))
      (λ alone. or_second (list_any h (needs o)) _ (and_two (weak o.key) _ (and_left (weak o.key) _ alone)
      (ap not (is_false (b o.key) (λ on. refuted (a o.key) (less o.key on) (not_true (a o.key) (and_right (weak o.key) _ alone)))))))
      (or_either (list_any g (needs o)) _ rest)))
      (or_either (not (stays_by fit o (found same_key want o.key))) _ is)

  module _ (before after : Key → Bool) (hold : Key → Bool) (hold_is : (k : Key) → hold k ≡ hold_of before k) where
    abbrev Round : (Key → Bool) → Bool → List KernelThing → Type 0
    Round now is_more front = IsRound same_key weak fit state want before now is_more front

    -- before any object
    pub round_none : Round before false []
    round_none = record {
      more = λ k is. is;
      rightly = λ all. all;
      sparing = λ all. all;
      closed = λ _. ((λ k. refl), tt);
      grown = λ is. absurd (cc is);
    }

    -- an object that is gone already, or doesn't go
    pub round_same : (is_more : Bool) (front : List KernelThing) (x : KernelThing) → Round after is_more front
        → (after x.key ≡ false → Goes after hold x ≡ false) → Round after is_more (front ++ x ∷ [])
    round_same is_more front x is stays = record {
      more = is.more;
      rightly = is.rightly;
      sparing = is.sparing;
      closed = λ off.
          let two = is.closed off in
          let e : after ≡ before = λ i k. two.0 k i in (
            two.0,
            all_append (λ o. before o.key ≡ false → goes same_key weak fit state want before o ≡ false) front (x ∷ []) two.1 (
              (λ out. ap (λ f. Goes before f x) (λ i k. sym (hold_is k) i) ∙ ap (λ f. Goes f hold x) (sym e) ∙ stays (two.0 x.key ∙ out)),
              tt,
            ),
          );
      grown = is.grown;
    }

    -- one more that goes
    pub round_more : (new : Key → Bool) (is_more : Bool) (front : List KernelThing) (x : KernelThing) → Round after is_more front
        → found same_key state x.key ≡ Some x → after x.key ≡ false → Goes after hold x ≡ true
        → ((k : Key) → new k ≡ cond (same_key x.key k) true (after k)) → Round new true (front ++ x ∷ [])
    round_more new is_more front x is at off away put = record {
      more = λ k on. later k (is.more k on);
      rightly = λ all.
          let old = is.rightly all in
          all_by (λ (two : KernelThing). (found same_key state two.key ≡ Some two) × (after two.key ≡ true → goes same_key weak fit state want after two ≡ true))
          (λ o. new o.key ≡ true → goes same_key weak fit state want new o ≡ true)
          (λ o two on. by_cases (goes same_key weak fit state want new o ≡ true) (same_key x.key o.key)
          (λ one.
          let e : x ≡ o = cc (sym at ∙ ap (found same_key state) (key_is x.key o.key one) ∙ two.0) in
          goes_more after new hold (hold_of new) later
          (λ k held_. hold_is k ∙ hold_less before new (λ j on_. later j (is.more j on_)) k held_) o
          (ap (Goes after hold) (sym e) ∙ away))
          (λ other. goes_more after new (hold_of after) (hold_of new) later (hold_less after new later) o
          (two.1 (sym (ap (λ b. cond b true (after o.key)) other) ∙ sym (put o.key) ∙ on))))
          state
          (both_of (λ o. found same_key state o.key ≡ Some o) (λ o. after o.key ≡ true → goes same_key weak fit state want after o ≡ true) state here old);
      sparing = λ all k stays.
          let old = is.sparing all in
          put k ∙ by_cases (cond (same_key x.key k) true (after k) ≡ false) (same_key x.key k)
          (λ one. absurd (never old k (sym (key_is x.key k one)) stays))
          (λ other. ap (λ b. cond b true (after k)) other ∙ old k stays);
      closed = λ no_. absurd (cc no_);
      grown = λ _.
          let one = count_more before after is.more state in
          let two = count_grows after new later state
          (any_found same_key key_is (λ o. not (after o.key) && new o.key) state x.key x at
          (and_two (not (after x.key)) _ (ap not off) (put x.key ∙ ap (λ b. cond b true (after x.key)) (key_same x.key)))) in
          omega (arith, one, two);
    }
      where
        later : (k : Key) → after k ≡ true → new k ≡ true
        later k on = put k ∙ by_cases (cond (same_key x.key k) true (after k) ≡ true) (same_key x.key k)
            (λ one. ap (λ b. cond b true (after k)) one) (λ other. ap (λ b. cond b true (after k)) other ∙ on)

        never : ((k : Key) → CanStay same_key weak fit state want k → after k ≡ false) → (k : Key) → k ≡ x.key → CanStay same_key weak fit state want k → ⊥
        never old k e stays =
            let test = stays.0 in
            let all = stays.1 k stays.2 in
            let o = all.0 in
            let same_o : o ≡ x = cc (sym all.2 ∙ ap (found same_key state) e ∙ at) in
            let fresh : (j : Key) → test j ≡ true → after j ≡ false = λ j on. old j (test, stays.1, on) in
            either ⊥
            (λ misfit. no_ (sym (ap (λ q. not (stays_by fit x q)) (ap (found same_key want) (sym e) ∙ all.3)
            ∙ ap (λ p. not (fit p all.1)) (sym same_o) ∙ ap not all.4) ∙ misfit))
            (λ rest. either ⊥
            (λ need. no_ (sym (none_each same_key key_is key_same after (needs x) (λ n in_n. fresh n
            (all_at same_key key_is key_same test (needs x) n (ap (λ p. list_all test (needs p)) (sym same_o) ∙ all.5) in_n))) ∙ need))
            (λ alone.
            let h = any_one (λ h. holds same_key k h && test h.key) (λ h. found same_key state h.key ≡ Some h) state here
            (all.6 (ap weak e ∙ and_left (weak x.key) _ alone)) in
            no_ (sym (not_true (hold x.key) (and_right (weak x.key) _ alone))
            ∙ hold_is x.key
            ∙ any_found same_key key_is (λ p. not (before p.key) && holds same_key x.key p) state h.0.key h.0 h.2
            (and_two (not (before h.0.key)) _
            (ap not (is_false (before h.0.key) (λ on. refuted (after h.0.key) (is.more h.0.key on) (fresh h.0.key (and_right (holds same_key k h.0) _ h.1)))))
            (ap (λ j. holds same_key j h.0) (sym e) ∙ and_left (holds same_key k h.0) _ h.1))))
            (or_either (list_any after (needs x)) _ rest))
            (or_either (not (stays_by fit x (found same_key want x.key))) _ away)
          where
            no_ : false ≡ true → ⊥
            no_ is_ = cc is_

  -- what is gone after a last round
  pub lost_of : (g : Key → Bool) → AllByRecursion (λ o. g o.key ≡ true → goes same_key weak fit state want g o ≡ true) state
      → ((k : Key) → CanStay same_key weak fit state want k → g k ≡ false)
      → AllByRecursion (λ o. g o.key ≡ false → goes same_key weak fit state want g o ≡ false) state → IsLost same_key weak fit state want g
  lost_of g rightly sparing closed = record {
    lost = both_ways state rightly closed;
    spared = sparing;
  }
    where
      both_ways : (s : List KernelThing) → AllByRecursion (λ o. g o.key ≡ true → goes same_key weak fit state want g o ≡ true) s
          → AllByRecursion (λ o. g o.key ≡ false → goes same_key weak fit state want g o ≡ false) s
          → AllByRecursion (λ o. g o.key ≡ goes same_key weak fit state want g o) s
      both_ways [] one two = tt
      both_ways (o ∷ s) one two = (
        by_cases (g o.key ≡ goes same_key weak fit state want g o) (g o.key) (λ on. on ∙ sym (one.0 on)) (λ off. off ∙ sym (two.0 off)),
        both_ways s one.1 two.1,
      )

pub map_long : {X Y : Type 0} (f : X → Y) (xs : List X) → length (map f xs) ≡ length xs
map_long f [] = refl
map_long f (x ∷ xs) = ap suc (map_long f xs)

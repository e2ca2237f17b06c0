-- What is made and changed: each wanted object after what it needs.
use Rattle.std.proofs.Common.{◌≡◌, Bool, true, false, not, cond, ◌&&◌, ◌||◌, List, [], ◌∷◌, ◌++◌, Option, Some, None, refl, sym, ap, subst, ◌∙◌}
use Rattle.std.proofs.Common.{append_assoc, append-nil, ◌⊎◌, inl, inr, ⊎_elim}
use Rattle.std.specs.Prelude.{is_some}
use Rattle.std.specs.List.{list_any, list_all, AllByRecursion}
use Rattle.tc_changes.specs.Model.{Thing, needs, or_else, at_key, among, found, has, ready, Same, IsWhole}
use Rattle.tc_changes.specs.Requests.{Request, Make, Change, can_become, without}
use Rattle.tc_changes.specs.Plans.{fits}
use Rattle.tc_changes.specs.Planned.{goes, stays_by, kept, request_of, makes}
use Rattle.tc_changes.proofs.Lookups.{and_left, and_right, or_left, or_right, not_true, all_by, by_cases, found-append, found-push, found-without}
use Rattle.tc_changes.proofs.Wholes.{all_weaker, ready-append, kept_ready, whole_done}
use Rattle.tc_changes.proofs.Unrelated.{pick, Unrelated, unrelated_front, ready_rest}
use Rattle.tc_changes.proofs.Drops.{all_filtered}
use Rattle.tc_changes.proofs.Runs.{taken, sent, run, run_first, Wholly}

some_or_else : {X : Type 0} (a b : Option X) → is_some a ≡ true → is_some (or_else a b) ≡ true
some_or_else (Some x) b is = refl
some_or_else None b is = absurd (cc is)

split_found : {X : Type 0} (a : Option X) (b : Bool) (x o : X) → or_else a (cond b (Some x) None) ≡ Some o → (a ≡ Some o) ⊎ (b ≡ true) × (x ≡ o)
split_found (Some y) b x o is = inl is
split_found None true x o is = inr (refl, cc is)
split_found None false x o is = absurd (cc is)

among_step : {X : Type 0} (a b : Bool) (f : Option X) (p : X) → ((a || b) || is_some f) ≡ true → (b || is_some (or_else f (cond a (Some p) None))) ≡ true
among_step a true f p is = refl
among_step a false (Some x) p is = refl
among_step true false None p is = refl
among_step false false None p is = absurd (cc is)

cond_twice : {X : Type 0} (b : Bool) (x y z : X) → cond b x (cond b y z) ≡ cond b x z
cond_twice true x y z = refl
cond_twice false x y z = refl

not_false : (b : Bool) → not b ≡ false → b ≡ true
not_false true is = refl
not_false false is = absurd (cc is)

module _ {K C : Type 0} (eq : K → K → Bool) where
  -- a key that no object has isn't found
  pub not_found : (k : K) (s : List (Thing K C)) → AllByRecursion (λ p. eq k p.key ≡ false) s → found eq s k ≡ None
  not_found k [] all = refl
  not_found k (p ∷ s) all = ap (λ o. or_else o (at_key eq p k)) (not_found k s all.1) ∙ ap (λ b. cond b (Some p) None) all.0

  -- what is found has the key, and what holds of all
  pub found_in : (P : Thing K C → Type 0) (s : List (Thing K C)) (k : K) (o : Thing K C) → AllByRecursion P s → found eq s k ≡ Some o
      → P o × (eq k o.key ≡ true)
  found_in P [] k o all is = absurd (cc is)
  found_in P (x ∷ s) k o all is =
      ⊎_elim (λ deeper. found_in P s k o all.1 deeper) (λ here. (subst P here.1 all.0, ap (λ y. eq k y.key) (sym here.1) ∙ here.0))
      (split_found (found eq s k) (eq k x.key) x o is)

  -- what an object in order needs stands before it
  pub needs_before : (before : List K) (front : List (Thing K C)) (o : Thing K C) (rest : List (Thing K C)) → ready eq before (front ++ o ∷ rest) ≡ true
      → list_all (λ k. among eq before k || has eq front k) (needs o) ≡ true
  needs_before before [] o rest is =
      all_weaker (among eq before) (λ k. among eq before k || false) (λ k there. ap (λ b. b || false) there) (needs o)
      (and_right (not (among eq before o.key)) _ (and_left _ (ready eq (o.key ∷ before) rest) is))
  needs_before before (p ∷ front) o rest is =
      all_weaker (λ k. among eq (p.key ∷ before) k || has eq front k) (λ k. among eq before k || has eq (p ∷ front) k)
      (λ k there. among_step (eq k p.key) (among eq before k) (found eq front k) p there) (needs o)
      (needs_before (p.key ∷ before) front o rest (and_right (not (among eq before p.key) && list_all (among eq before) (needs p)) _ is))

module _ {K C : Type 0} (eq : K → K → Bool) (sound : (a b : K) → eq a b ≡ true → a ≡ b) (same : (a : K) → eq a a ≡ true)
    (alike takes : Thing K C → Thing K C → Bool) (alike_is : (a b : Thing K C) → alike a b ≡ true → a ≡ b) where
  abbrev fit : Thing K C → Thing K C → Bool
  fit = fits alike takes

  -- an object in order is what is found by its key
  pub found_self : (front : List (Thing K C)) (w : Thing K C) (rest : List (Thing K C)) → ready eq [] (front ++ w ∷ rest) ≡ true
      → found eq (front ++ w ∷ rest) w.key ≡ Some w
  found_self front w rest is =
      found-append eq front (w ∷ rest) w.key
      ∙ ap (λ o. or_else (or_else o (at_key eq w w.key)) (found eq front w.key)) (not_found eq w.key rest (ready_rest eq sound same [] front w rest is))
      ∙ ap (λ b. or_else (cond b (Some w) None) (found eq front w.key)) (same w.key)

  module _ (stay want : List (Thing K C)) (stay_order : ready eq [] stay ≡ true)
      (stays : AllByRecursion (λ o. stays_by fit o (found eq want o.key) ≡ true) stay) where
    -- what requests lead to
    abbrev pub Leads : List (Thing K C) → List (Request K C) → Type 0
    Leads state rs = (after : List (Thing K C)) × (run eq takes state rs ≡ Some after) × Same eq after (stay ++ want) × Wholly eq state rs

    lead_first : (state : List (Thing K C)) (r : Request K C) (rs : List (Request K C)) → IsWhole eq state → taken eq takes state r ≡ true
        → Leads (sent eq state r) rs → Leads state (r ∷ rs)
    lead_first state r rs whole is leads = (leads.0, run_first eq takes state r rs is ∙ leads.1, leads.2, (whole, leads.3))

    module _ (done : List (Thing K C)) (w : Thing K C) (rest : List (Thing K C)) (state : List (Thing K C)) (all : done ++ w ∷ rest ≡ want)
        (order : ready eq [] (done ++ w ∷ rest) ≡ true)
        (so_far : Same eq state (stay ++ done)) where
      not_done : found eq done w.key ≡ None
      not_done = not_found eq w.key done (all_unrelated done (unrelated_front eq sound same [] done w rest order).0)
        where
          all_unrelated : (s : List (Thing K C)) → AllByRecursion (Unrelated eq sound same w.key) s → AllByRecursion (λ p. eq w.key p.key ≡ false) s
          all_unrelated [] all = tt
          all_unrelated (p ∷ s) all = (all.0.0, all_unrelated s all.1)

      whole_now : IsWhole eq state
      whole_now = whole_done eq sound same done stay state stay_order (and_left _ _ (sym (ready-append eq [] done (w ∷ rest)) ∙ order)) so_far

      now : found eq state w.key ≡ found eq stay w.key
      now = so_far w.key ∙ found-append eq stay done w.key ∙ ap (λ o. or_else o (found eq stay w.key)) not_done

      has_needs : list_all (has eq state) (needs w) ≡ true
      has_needs = all_weaker (has eq done) (has eq state)
          (λ k there. ap is_some (so_far k ∙ found-append eq stay done k) ∙ some_or_else (found eq done k) (found eq stay k) there) (needs w)
          (needs_before eq [] done w rest order)

      -- one more is there
      more : (k : K) → cond (eq k w.key) (Some w) (found eq state k) ≡ found eq (stay ++ (done ++ w ∷ [])) k
      more k = ap (λ o. cond (eq k w.key) (Some w) o) (so_far k) ∙ sym (found-push eq (stay ++ done) w k)
          ∙ ap (λ l. found eq l k) (append_assoc stay done (w ∷ []))

      module _ (rs : List (Request K C)) (next : (s : List (Thing K C)) → Same eq s (stay ++ (done ++ w ∷ [])) → Leads s rs) where
        make_lead : found eq stay w.key ≡ None → Leads state (Make w ∷ rs)
        make_lead none =
            let free : has eq state w.key ≡ false = ap is_some (now ∙ none) in
            lead_first state (Make w) rs whole_now (ap (λ b. not b && list_all (has eq state) (needs w)) free ∙ has_needs)
            (next (state ++ w ∷ []) (λ k. found-push eq state w k ∙ more k))

        same_lead : (o : Thing K C) → found eq stay w.key ≡ Some o → alike o w ≡ true → Leads state rs
        same_lead o there is =
            let here : found eq state w.key ≡ Some w = now ∙ there ∙ ap Some (alike_is o w is) in
            next state (λ k. by_cases (found eq state k ≡ found eq (stay ++ (done ++ w ∷ [])) k) (eq k w.key)
            (λ yes_. ap (found eq state) (sound k w.key yes_) ∙ here ∙ sym (ap (λ b. cond b (Some w) (found eq state k)) yes_) ∙ more k)
            (λ no_. sym (ap (λ b. cond b (Some w) (found eq state k)) no_) ∙ more k))

        change_lead : (o : Thing K C) → found eq stay w.key ≡ Some o → alike o w ≡ false → Leads state (Change w ∷ rs)
        change_lead o there other =
            let at = found_in eq (λ p. stays_by fit p (found eq want p.key) ≡ true) stay w.key o stays there in
            let wanted : found eq want o.key ≡ Some w = ap (found eq want) (sym (sound w.key o.key at.1)) ∙ ap (λ l. found eq l w.key) (sym all)
            ∙ found_self done w rest order in
            let can : takes o w ≡ true = sym (ap (λ b. b || takes o w) other) ∙ sym (ap (stays_by fit o) wanted) ∙ at.0 in
            let become : can_become eq takes (found eq state w.key) w ≡ true = ap (λ q. can_become eq takes q w) (now ∙ there) ∙ can in
            lead_first state (Change w) rs whole_now (ap (λ b. b && list_all (has eq state) (needs w)) become ∙ has_needs)
            (next (without eq w.key state ++ w ∷ []) (λ k. found-push eq (without eq w.key state) w k
            ∙ ap (λ q. cond (eq k w.key) (Some w) q) (found-without eq sound w.key state k) ∙ cond_twice (eq k w.key) (Some w) None (found eq state k)
            ∙ more k))

        lead_by : (q : Option (Thing K C)) → found eq stay w.key ≡ q → Leads state (request_of eq alike w q ++ rs)
        lead_by None there = make_lead there
        lead_by (Some o) there =
            pick (λ l. Leads state (l ++ rs)) (alike o w) [] (Change w ∷ []) (λ is. same_lead o there is) (λ other. change_lead o there other)

    -- makes and changes lead from what stays to what is wanted
    pub made : (done rest state : List (Thing K C)) → done ++ rest ≡ want → ready eq [] (done ++ rest) ≡ true → Same eq state (stay ++ done)
        → Leads state (makes eq alike stay rest)
    made done [] state all order so_far = (
      state,
      refl,
      λ k. so_far k ∙ ap (λ l. found eq (stay ++ l) k) (sym (append-nil done) ∙ all),
      whole_done eq sound same done stay state stay_order (ap (ready eq []) (sym (append-nil done)) ∙ order) so_far,
    )
    made done (w ∷ rest) state all order so_far =
        let shift : (done ++ w ∷ []) ++ rest ≡ done ++ w ∷ rest = append_assoc done (w ∷ []) rest in
        lead_by done w rest state all order so_far (makes eq alike stay rest)
        (λ s is. made (done ++ w ∷ []) rest s (shift ∙ all) (ap (ready eq []) shift ∙ order) is)
        (found eq stay w.key) refl

    -- all that stays is wanted
    pub stay_wanted : Same eq (stay ++ want) want
    stay_wanted k = found-append eq stay want k ∙ wanted (found eq want k) refl (found eq stay k) refl
      where
        wanted : (a : Option (Thing K C)) → found eq want k ≡ a → (b : Option (Thing K C)) → found eq stay k ≡ b → or_else a b ≡ a
        wanted (Some x) there b is = refl
        wanted None there None is = refl
        wanted None there (Some o) is =
            let at = found_in eq (λ p. stays_by fit p (found eq want p.key) ≡ true) stay k o stays is in
            absurd (cc (sym (ap (stays_by fit o) (ap (found eq want) (sym (sound k o.key at.1)) ∙ there)) ∙ at.0))

  module _ (weak gone : K → Bool) (state want : List (Thing K C)) (order : ready eq [] state ≡ true) (wanted : ready eq [] want ≡ true)
      (lost : AllByRecursion (λ o. gone o.key ≡ goes eq weak fit state want gone o) state) where
    abbrev pub staying : List (Thing K C)
    staying = kept eq weak gone state

    -- what stays can stay
    pub stays : AllByRecursion (λ o. stays_by fit o (found eq want o.key) ≡ true) staying
    stays = all_filtered (λ o. stays_by fit o (found eq want o.key) ≡ true) (λ o. not (gone o.key)) state
        (all_by (λ o. gone o.key ≡ goes eq weak fit state want gone o) (λ o. not (gone o.key) ≡ true → stays_by fit o (found eq want o.key) ≡ true)
        (λ o is off. not_false (stays_by fit o (found eq want o.key)) (or_left _ _ (sym is ∙ not_true (gone o.key) off))) state lost)

    -- what stays needs nothing that goes
    pub free : AllByRecursion (λ o. gone o.key ≡ false → list_any gone (needs o) ≡ false) state
    free = all_by (λ o. gone o.key ≡ goes eq weak fit state want gone o) (λ o. gone o.key ≡ false → list_any gone (needs o) ≡ false)
        (λ o is off. or_left (list_any gone (needs o)) _ (or_right (not (stays_by fit o (found eq want o.key))) _ (sym is ∙ off))) state lost

    pub stay_order : ready eq [] staying ≡ true
    stay_order = kept_ready eq sound same gone [] [] state order free (λ k t. t) (λ k t _. t)

    -- what is made and changed leads from what stays
    pub leads : Leads staying want stay_order stays staying (makes eq alike staying want)
    leads = made staying want stay_order stays [] want staying refl wanted (λ k. ap (λ l. found eq l k) (sym (append-nil staying)))

    pub leads_same : Same eq leads.0 want
    leads_same k = leads.2 k ∙ stay_wanted staying want stay_order stays k

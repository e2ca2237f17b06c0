-- No delete is sent that another makes needless.
use Rattle.std.proofs.Common.{◌≡◌, Bool, true, false, not, cond, ◌&&◌, ◌||◌, List, [], ◌∷◌, Option, Some, None, map, unwrap_or, refl, sym, ap, subst}
use Rattle.std.proofs.Common.{◌∙◌, ◌⊎◌, inl, inr}
use Rattle.std.specs.Prelude.{filter}
use Rattle.std.specs.List.{list_any, list_all, AllByRecursion}
use Rattle.std.proofs.lemmas.List.Folds.{list_any-append}
use Rattle.tc_changes.specs.Model.{Thing, needs, among, or_else, found, is_next, ready}
use Rattle.tc_changes.specs.Requests.{Delete, settled, Goes, itself, below, unheld}
use Rattle.tc_changes.specs.Plans.{fits, deletes, bound, IsDeleted, IsLeast}
use Rattle.tc_changes.specs.Planned.{goes, kept, makes, first_by, is_all_by, is_all_but, only_by, remover_of, asked, planned, IsLost}
use Rattle.tc_changes.proofs.Lookups.{and_left, and_right, or_left, or_right, or_first, or_second, by_cases, either, or_either, differ, refuted}
use Rattle.tc_changes.proofs.Lookups.{is_false, at_found, all_at}
use Rattle.tc_changes.proofs.Going.{is_there}
use Rattle.tc_changes.proofs.Passes.{Removed, asked_all}
use Rattle.tc_changes.proofs.Keeps.{all_found, spared_makes}
use Rattle.tc_changes.proofs.Leading.{find, passed_over}
use Rattle.tc_changes.proofs.Drops.{asked_of, asked_after, own_is, own_none, asked_in, asked_gone, goes_gone, gone_at, sink, needs_there, remover_at, under_one}

all_find : {K : Type 0} (eq : K → K → Bool) → ((a : K) → eq a a ≡ true) → (p : K → Bool) (ns : List K) → list_all p ns ≡ false
    → (n : K) × (among eq ns n ≡ true) × (p n ≡ false)
all_find eq same p [] is = absurd (cc is)
all_find eq same p (m ∷ ns) is =
    by_cases ((n : _) × (among eq (m ∷ ns) n ≡ true) × (p n ≡ false)) (p m)
    (λ on.
    let rest = all_find eq same p ns (sym (ap (λ b. b && list_all p ns) on) ∙ is) in
    (rest.0, or_second (eq rest.0 m) _ rest.1, rest.2))
    (λ off. (m, or_first (eq m m) _ (same m), off))

and_either : (a b : Bool) → (a && b) ≡ false → (a ≡ false) ⊎ (b ≡ false)
and_either false b is = inl refl
and_either true b is = inr is

module _ {K : Type 0} (eq : K → K → Bool) (sound : (a b : K) → eq a b ≡ true → a ≡ b) (same : (a : K) → eq a a ≡ true) (find : K → Option K) where
  -- the first that is found of some keys, if something is found of one
  first_some : (ns : List K) (n x : K) → among eq ns n ≡ true → find n ≡ Some x
      → (y : K) × (u : K) × (first_by find ns ≡ Some y) × (among eq ns u ≡ true) × (find u ≡ Some y)
  first_some [] n x there is = absurd (cc there)
  first_some (m ∷ ns) n x there is = by_find (λ more. first_some ns n x more is) (find m) refl
    where
      by_find : (among eq ns n ≡ true → (y : K) × (u : K) × (first_by find ns ≡ Some y) × (among eq ns u ≡ true) × (find u ≡ Some y))
          → (q : Option K) → find m ≡ q → (y : K) × (u : K) × (first_by find (m ∷ ns) ≡ Some y) × (among eq (m ∷ ns) u ≡ true) × (find u ≡ Some y)
      by_find deeper (Some y) at = (y, m, ap (λ q. or_else q (first_by find ns)) at, or_first (eq m m) _ (same m), at)
      by_find deeper None at =
          let rest = deeper
          (by_cases (among eq ns n ≡ true) (eq n m)
          (λ here. absurd (cc (sym is ∙ ap find (sound n m here) ∙ at)))
          (λ other. sym (ap (λ b. b || among eq ns n) other) ∙ there)) in
          (rest.0, rest.1, ap (λ q. or_else q (first_by find ns)) at ∙ rest.2, or_second (eq rest.1 m) _ rest.3, rest.4)

  -- a key of which something else is found
  other_found : (x m : K) → eq x (unwrap_or (find m) x) ≡ false → (y : K) × (find m ≡ Some y) × (eq x y ≡ false)
  other_found x m off = by_find (find m) refl
    where
      by_find : (q : Option K) → find m ≡ q → (y : K) × (find m ≡ Some y) × (eq x y ≡ false)
      by_find (Some y) at = (y, at, sym (ap (λ q. eq x (unwrap_or q x)) at) ∙ off)
      by_find None at = absurd (cc (sym (same x) ∙ sym (ap (λ q. eq x (unwrap_or q x)) at) ∙ off))

module _ {K : Type 0} (eq : K → K → Bool) (sound : (a b : K) → eq a b ≡ true → a ≡ b) (weak : K → Bool) where
  strong_in : (ns : List K) (n : K) → among eq ns n ≡ true → weak n ≡ false → among eq (filter (λ k. not (weak k)) ns) n ≡ true
  strong_in [] n is strong = absurd (cc is)
  strong_in (m ∷ ns) n is strong = by_weak (weak m) refl (λ more. strong_in ns n more strong)
    where
      by_weak : (b : Bool) → weak m ≡ b → (among eq ns n ≡ true → among eq (filter (λ k. not (weak k)) ns) n ≡ true)
          → among eq (cond (not b) (m ∷ filter (λ k. not (weak k)) ns) (filter (λ k. not (weak k)) ns)) n ≡ true
      by_weak true w deeper = deeper (either (among eq ns n ≡ true) (λ a. refuted (weak n) (ap weak (sound n m a) ∙ w) strong) (λ b. b)
          (or_either (eq n m) _ is))
      by_weak false w deeper = either (among eq (m ∷ filter (λ k. not (weak k)) ns) n ≡ true) (λ a. or_first (eq n m) _ a)
          (λ b. or_second (eq n m) _ (deeper b)) (or_either (eq n m) _ is)

module _ {K C : Type 0} (eq : K → K → Bool) (sound : (a b : K) → eq a b ≡ true → a ≡ b) (same : (a : K) → eq a a ≡ true) (weak : K → Bool) where
  in_under : (o : Thing K C) (n : K) → among eq o.under n ≡ true → among eq (bound eq weak o) n ≡ true
  in_under o n is = list_any-append (eq n) o.under (filter (λ k. not (weak k)) o.refers) ∙ or_first (among eq o.under n) _ is

  in_refers : (o : Thing K C) (n : K) → among eq o.refers n ≡ true → weak n ≡ false → among eq (bound eq weak o) n ≡ true
  in_refers o n is strong = list_any-append (eq n) o.under (filter (λ k. not (weak k)) o.refers)
      ∙ or_second (among eq o.under n) _ (strong_in eq sound weak o.refers n is strong)

  -- two removers of what a delete waits for, if an object has no remover and is under something that has one
  two_removers : (find : K → Option K) (o : Thing K C) → remover_of eq weak find o ≡ None → (n z : K) → among eq o.under n ≡ true → find n ≡ Some z
      → (x : K) × (u : K) × (y : K) × (m : K) × (among eq (bound eq weak o) u ≡ true) × (find u ≡ Some x) × (among eq (bound eq weak o) m ≡ true)
      × (find m ≡ Some y) × (eq x y ≡ false)
  two_removers find o none n z under is =
      let first = first_some eq sound same find o.under n z under is in
      let x = first.0 in
      let not_all : (is_all_by eq find x o.under && is_all_but eq weak find x o.refers) ≡ false =
      is_false (is_all_by eq find x o.under && is_all_but eq weak find x o.refers)
      (λ on. some_none (sym (ap (λ b. cond b (Some x) None) on) ∙ sym (ap (only_by eq weak find o) first.2) ∙ none)) in
      either ((x : K) × (u : K) × (y : K) × (m : K) × (among eq (bound eq weak o) u ≡ true) × (find u ≡ Some x) × (among eq (bound eq weak o) m ≡ true)
      × (find m ≡ Some y) × (eq x y ≡ false))
      (λ off.
      let m = all_find eq same (λ k. eq x (unwrap_or (find k) x)) o.under off in
      let y = other_found eq sound same find x m.0 m.2 in
      (x, first.1, y.0, m.0, in_under o first.1 first.3, first.4, in_under o m.0 m.1, y.1, y.2))
      (λ off.
      let m = all_find eq same (λ k. weak k || eq x (unwrap_or (find k) x)) o.refers off in
      let y = other_found eq sound same find x m.0 (or_right (weak m.0) _ m.2) in
      (x, first.1, y.0, m.0, in_under o first.1 first.3, first.4, in_refers o m.0 m.1 (or_left (weak m.0) _ m.2), y.1, y.2))
      (and_either (is_all_by eq find x o.under) _ not_all)
    where
      some_none : {x : K} → Some x ≡ None → ⊥
      some_none is = cc is

  module _ (state : List (Thing K C)) (fit : Thing K C → Thing K C → Bool) (want : List (Thing K C)) (gone : K → Bool) (find : K → Option K)
      (here : AllByRecursion (λ o. found eq state o.key ≡ Some o) state) (order : ready eq [] state ≡ true) (is_set : settled eq weak state [] state ≡ true)
      (lost : AllByRecursion (λ o. gone o.key ≡ goes eq weak fit state want gone o) state)
      (removed : AllByRecursion (Removed eq sound same weak gone find) state) where
    abbrev asks : List K
    asks = asked_of eq sound same weak state fit want gone find here order is_set lost removed state

    bound_needs : (o : Thing K C) (n : K) → among eq (bound eq weak o) n ≡ true → among eq (needs o) n ≡ true
    bound_needs o n is =
        list_any-append (eq n) o.under o.refers
        ∙ either ((among eq o.under n || among eq o.refers n) ≡ true) (λ a. or_first (among eq o.under n) _ a)
        (λ b. or_second (among eq o.under n) _ (less o.refers b))
        (or_either (among eq o.under n) _ (sym (list_any-append (eq n) o.under (filter (λ k. not (weak k)) o.refers)) ∙ is))
      where
        less : (ns : List K) → among eq (filter (λ k. not (weak k)) ns) n ≡ true → among eq ns n ≡ true
        less [] on = on
        less (m ∷ ns) on = by_weak (weak m) (λ more. less ns more) on
          where
            by_weak : (b : Bool) → (among eq (filter (λ k. not (weak k)) ns) n ≡ true → among eq ns n ≡ true)
                → among eq (cond (not b) (m ∷ filter (λ k. not (weak k)) ns) (filter (λ k. not (weak k)) ns)) n ≡ true → among eq (m ∷ ns) n ≡ true
            by_weak true deeper at = or_second (eq n m) _ (deeper at)
            by_weak false deeper at = either (among eq (m ∷ ns) n ≡ true) (λ a. or_first (eq n m) _ a) (λ b. or_second (eq n m) _ (deeper b))
                (or_either (eq n m) _ at)

    -- removers are asked for, or weak
    pub removers : (before : List K) (rest : List (Thing K C)) → ready eq before rest ≡ true → AllByRecursion (λ o. found eq state o.key ≡ Some o) rest
        → ((k : K) → among eq asks k ≡ false → (o : Thing K C) → found eq state k ≡ Some o → gone k ≡ true → remover_of eq weak find o ≡ None → weak k ≡ true)
        → ((k x : K) → among eq before k ≡ true → find k ≡ Some x → (among eq asks x ≡ true) ⊎ (weak x ≡ true))
        → AllByRecursion (λ o. (x : K) → find o.key ≡ Some x → (among eq asks x ≡ true) ⊎ (weak x ≡ true)) rest
    removers before [] is there all old = tt
    removers before (o ∷ rest) is there all old = (
      own,
      removers (o.key ∷ before) rest (and_right (is_next eq before o) _ is) there.1 all (λ k x in_k at.
          by_cases ((among eq asks x ≡ true) ⊎ (weak x ≡ true)) (eq k o.key)
          (λ on. own x (ap find (sym (sound k o.key on)) ∙ at))
          (λ off. old k x (sym (ap (λ b. b || among eq before k) off) ∙ in_k) at)),
    )
      where
        by_remover : (x : K) → find o.key ≡ Some x → (q : Option K) → remover_of eq weak find o ≡ q → (among eq asks x ≡ true) ⊎ (weak x ≡ true)
        by_remover x at None none_ =
            let is_gone = gone_at eq sound same weak state fit want gone find here order is_set lost removed o.key o x there.0 at in
            let e : o.key ≡ x = cc (sym (remover_at eq sound same weak state fit want gone find here order is_set lost removed o.key o there.0 is_gone
            ∙ ap (λ q. Some (unwrap_or q o.key)) none_) ∙ at) in
            subst (λ y. (among eq asks y ≡ true) ⊎ (weak y ≡ true)) e
            (by_cases ((among eq asks o.key ≡ true) ⊎ (weak o.key ≡ true)) (among eq asks o.key) (λ on. inl on)
            (λ off. inr (all o.key off o there.0 is_gone none_)))
        by_remover x at (Some j) some_ =
            let is_gone = gone_at eq sound same weak state fit want gone find here order is_set lost removed o.key o x there.0 at in
            let e : j ≡ x = cc (sym (remover_at eq sound same weak state fit want gone find here order is_set lost removed o.key o there.0 is_gone
            ∙ ap (λ q. Some (unwrap_or q o.key)) some_) ∙ at) in
            let u = under_one eq sound same weak state find o j some_ in
            old u.0 x (all_at eq sound same (among eq before) (needs o) u.0
            (and_right (not (among eq before o.key)) _ (and_left (is_next eq before o) _ is))
            (list_any-append (eq u.0) o.under o.refers ∙ or_first (among eq o.under u.0) _ u.1)) (u.2 ∙ ap Some e)

        own : (x : K) → find o.key ≡ Some x → (among eq asks x ≡ true) ⊎ (weak x ≡ true)
        own x at = by_remover x at (remover_of eq weak find o) refl

    invert : (j k : K) → Goes eq weak state (j ∷ []) k → weak k ≡ false → eq j k ≡ false
        → (o : Thing K C) × (n : K) × (found eq state k ≡ Some o) × (among eq o.under n ≡ true) × Goes eq weak state (j ∷ []) n
    invert j _ (itself k is) strong differs =
        refuted (eq j k) (either (eq j k ≡ true) (λ a. ap (eq j) (sound k j a) ∙ same j) (λ b. absurd (cc b)) (or_either (eq k j) false is)) differs
    invert j _ (below k o n is under along) strong differs = (o, n, is, under, along)
    invert j _ (unheld k h w there is refers all) strong differs = refuted (weak k) w strong

    one_ask : (x : K) → among eq (x ∷ []) x ≡ true
    one_ask x = or_first (eq x x) false (same x)

    known : (k : K) (o : Thing K C) (x : K) → found eq state k ≡ Some o → find k ≡ Some x
        → ((among eq asks x ≡ true) ⊎ (weak x ≡ true)) × Goes eq weak state (x ∷ []) k
    known k o x at is =
        let two = at_found eq sound (λ o. (x : K) → find o.key ≡ Some x → (among eq asks x ≡ true) ⊎ (weak x ≡ true)) state k o
        (removers [] state order here
        (λ i off p at_i is_gone none_. by_cases (weak i ≡ true) (weak i) (λ w. w)
        (λ strong. refuted (among eq asks i)
        (asked_after eq sound same weak state fit want gone find here order is_set lost removed [] state refl i p at_i
        (own_is eq sound same weak state fit want gone find here order is_set lost removed i p at_i is_gone strong none_) refl) off))
        (λ i y there _. absurd (cc there))) at in (
          two.0 x (ap find (sym two.1) ∙ is),
          sink eq sound same weak state fit want gone find here order is_set lost removed (x ∷ []) k o x at is (itself x (one_ask x)),
        )

    -- a delete isn't needless
    pub needed : (j k : K) → among eq asks j ≡ true → among eq asks k ≡ true → eq j k ≡ false → Goes eq weak state (j ∷ []) k
        → (o : Thing K C) × (found eq state k ≡ Some o) × ((n : K) × (i : K) × (among eq (bound eq weak o) n ≡ true)
        × ((among eq asks i ≡ true) ⊎ (weak i ≡ true)) × (eq i j ≡ false) × Goes eq weak state (i ∷ []) n)
    needed j k in_j in_k differs along =
        let own = asked_in eq sound same weak state fit want gone find here order is_set lost removed state k in_k (λ o. found eq state o.key ≡ Some o) here in
        let three = own_none eq sound same weak state fit want gone find here order is_set lost removed own.0 own.2 in
        let at : found eq state k ≡ Some own.0 = ap (found eq state) own.1 ∙ own.3 in
        let up = invert j k along (ap weak own.1 ∙ three.1) differs in
        let e : up.0 ≡ own.0 = cc (sym up.2 ∙ at) in
        let under : among eq own.0.under up.1 ≡ true = ap (λ p. among eq p.under up.1) (sym e) ∙ up.3 in
        let in_state : (n : K) → among eq (bound eq weak own.0) n ≡ true → (p : Thing K C) × (found eq state n ≡ Some p) = λ n is.
        is_there (found eq state n)
        (needs_there eq sound same weak state fit want gone find here order is_set lost removed k own.0 at n (bound_needs own.0 n is)) in
        let u = in_state up.1 (in_under own.0 up.1 under) in
        let u_gone = goes_gone eq sound same weak state fit want gone find here order is_set lost removed (j ∷ [])
        (λ i is. ap gone (sound i j (either (eq i j ≡ true) (λ a. a) (λ b. absurd (cc b)) (or_either (eq i j) false is)))
        ∙ asked_gone eq sound same weak state fit want gone find here order is_set lost removed [] state refl j in_j) up.1 up.4 in
        let two = two_removers find own.0 three.2 up.1 (unwrap_or (remover_of eq weak find u.0) up.1) under
        (remover_at eq sound same weak state fit want gone find here order is_set lost removed up.1 u.0 u.1 u_gone) in (
          own.0,
          at,
          by_cases ((n : K) × (i : K) × (among eq (bound eq weak own.0) n ≡ true) × ((among eq asks i ≡ true) ⊎ (weak i ≡ true)) × (eq i j ≡ false)
              × Goes eq weak state (i ∷ []) n) (eq two.0 j)
              (λ is.
              let p = in_state two.3 two.6 in
              let r = known two.3 p.0 two.2 p.1 two.7 in
              (two.3, two.2, two.6, r.0, ap (eq two.2) (sym (sound two.0 j is)) ∙ differ eq sound same two.0 two.2 two.8, r.1))
              (λ other.
              let p = in_state two.1 two.4 in
              let r = known two.1 p.0 two.0 p.1 two.5 in
              (two.1, two.0, two.4, r.0, other, r.1)),
        )

module _ {K C : Type 0} (eq : K → K → Bool) (sound : (a b : K) → eq a b ≡ true → a ≡ b) (same : (a : K) → eq a a ≡ true)
    (alike takes : Thing K C → Thing K C → Bool) (alike_is : (a b : Thing K C) → alike a b ≡ true → a ≡ b)
    (alike_same : (a : Thing K C) → alike a a ≡ true) (weak gone : K → Bool) (state want : List (Thing K C)) (order : ready eq [] state ≡ true)
    (is_set : settled eq weak state [] state ≡ true) (is_lost : IsLost eq weak (fits alike takes) state want gone) where
  abbrev keys : List K
  keys = asked eq weak gone [] state

  deleted_in : (k : K) (ks : List K) → list_any (deletes {C = C} eq k) (map Delete ks) ≡ among eq ks k
  deleted_in k [] = refl
  deleted_in k (j ∷ ks) = ap (λ b. eq k j || b) (deleted_in k ks)

  or_none : (b : Bool) → (b || false) ≡ b
  or_none true = refl
  or_none false = refl

  -- the keys that a plan deletes are those that are asked for
  deleted_is : (k : K) → list_any (deletes {C = C} eq k) (planned eq alike weak gone state want) ≡ among eq keys k
  deleted_is k =
      let stay = kept eq weak gone state in
      list_any-append (deletes {C = C} eq k) (map Delete keys) (makes eq alike stay want)
      ∙ ap (λ b. list_any (deletes {C = C} eq k) (map Delete keys) || b)
      (spared_makes eq sound same alike takes alike_is alike_same weak gone state want is_lost k stay want)
      ∙ or_none (list_any (deletes {C = C} eq k) (map Delete keys)) ∙ deleted_in k keys

  pub plan_least : IsLeast eq weak state (planned eq alike weak gone state want)
  plan_least j k del_j del_k differs along =
      let two = passed_over eq sound same weak gone state order in
      let ask : (x : K) → IsDeleted eq (planned eq alike weak gone state want) x
      → among eq (asked_all eq sound same weak gone (find eq sound same weak gone state order) state) x ≡ true =
      λ x is. ap (λ l. among eq l x) (sym two.1) ∙ sym (deleted_is x) ∙ is in
      let is = needed eq sound same weak state (fits alike takes) want gone (find eq sound same weak gone state order)
      (all_found eq sound same alike takes alike_is [] state state refl order) order is_set is_lost.lost two.0 j k (ask j del_j) (ask k del_k) differs along in
      let r = is.2 in (
        is.0,
        is.1,
        (
          r.0,
          r.1,
          r.2,
          either (IsDeleted eq (planned eq alike weak gone state want) r.1 ⊎ (weak r.1 ≡ true))
              (λ a. inl (deleted_is r.1 ∙ ap (λ l. among eq l r.1) two.1 ∙ a)) (λ b. inr b) r.3,
          r.4,
          r.5,
        ),
      )

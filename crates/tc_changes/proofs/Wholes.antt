-- States that a cut leaves are whole.
use Rattle.std.proofs.Common.{◌≡◌, Bool, true, false, not, cond, ◌&&◌, ◌||◌, List, [], ◌∷◌, ◌++◌, Option, Some, None, refl, sym, ap, ◌∙◌}
use Rattle.std.specs.Prelude.{is_some, filter}
use Rattle.std.specs.List.{list_any, list_all, AllByRecursion}
use Rattle.tc_changes.specs.Model.{Thing, needs, or_else, among, found, has, ready, Same, IsWhole}
use Rattle.tc_changes.proofs.Lookups.{and_left, and_right, or_left, or_right, or_true, not_true, by_cases, found-append, found-filter}

pub all_weaker : {K : Type 0} (p q : K → Bool) → ((k : K) → p k ≡ true → q k ≡ true) → (ks : List K) → list_all p ks ≡ true → list_all q ks ≡ true
all_weaker p q turn [] all = refl
all_weaker p q turn (k ∷ ks) all =
    ap (λ b. b && list_all q ks) (turn k (and_left (p k) _ all)) ∙ all_weaker p q turn ks (and_right (p k) _ all)

-- the keys before and of some objects, the last first
abbrev pub passed : {K C : Type 0} → List K → List (Thing K C) → List K
passed before [] = before
passed before (o ∷ state) = passed (o.key ∷ before) state

pub and_both : (a b : Bool) → a ≡ true → b ≡ true → (a && b) ≡ true
and_both true b here there = there
and_both false b here there = absurd (cc here)

and_assoc : (a b c : Bool) → (a && (b && c)) ≡ ((a && b) && c)
and_assoc true b c = refl
and_assoc false b c = refl

pub fresh_by : (a b : Bool) → (a ≡ true → b ≡ true) → b ≡ false → a ≡ false
fresh_by true b turn is = absurd (cc (sym (turn refl) ∙ is))
fresh_by false b turn is = refl

or_cases : (a b c : Bool) → (b ≡ true → c ≡ true) → (a || b) ≡ true → (a || c) ≡ true
or_cases true b c turn is = refl
or_cases false b c turn is = turn is

skip_key : (a b d e : Bool) → e ≡ (b || d) → (a ≡ true → d ≡ true) → e ≡ ((a || b) || d)
skip_key true true d e is has_ = is
skip_key true false true e is has_ = is
skip_key true false false e is has_ = absurd (cc (has_ refl))
skip_key false b d e is has_ = is

add_key : (a b d e : Bool) → e ≡ (b || d) → (a || e) ≡ ((a || b) || d)
add_key true b d e is = refl
add_key false b d e is = is

passed_step : {X : Type 0} (a b : Bool) (f : Option X) (p : X) → ((a || b) || is_some f) ≡ (b || is_some (or_else f (cond a (Some p) None)))
passed_step a true f p = or_true_left a
  where
    or_true_left : (c : Bool) → ((c || true) || is_some f) ≡ true
    or_true_left true = refl
    or_true_left false = refl
passed_step true false (Some x) p = refl
passed_step true false None p = refl
passed_step false false (Some x) p = refl
passed_step false false None p = refl

module _ {K C : Type 0} (eq : K → K → Bool) where
  pub passed_has : (before : List K) (s : List (Thing K C)) (k : K) → among eq (passed before s) k ≡ (among eq before k || has eq s k)
  passed_has before [] k = or_none (among eq before k)
    where
      or_none : (b : Bool) → b ≡ (b || false)
      or_none true = refl
      or_none false = refl
  passed_has before (o ∷ s) k = passed_has (o.key ∷ before) s k ∙ passed_step (eq k o.key) (among eq before k) (found eq s k) o

  pub ready-append : (before : List K) (a b : List (Thing K C)) → ready eq before (a ++ b) ≡ (ready eq before a && ready eq (passed before a) b)
  ready-append before [] b = refl
  ready-append before (o ∷ a) b =
      ap (λ r. (not (among eq before o.key) && list_all (among eq before) (needs o)) && r) (ready-append (o.key ∷ before) a b)
      ∙ and_assoc (not (among eq before o.key) && list_all (among eq before) (needs o)) (ready eq (o.key ∷ before) a) (ready eq (passed (o.key ∷ before) a) b)

  -- one object after others
  pub ready_one : (before : List K) (o : Thing K C) (rest : List (Thing K C)) → among eq before o.key ≡ false → list_all (among eq before) (needs o) ≡ true
      → ready eq (o.key ∷ before) rest ≡ true
      → ready eq before (o ∷ rest) ≡ true
  ready_one before o rest fresh all more =
      and_both _ _ (and_both _ _ (ap not fresh) all) more

module _ {K : Type 0} (eq : K → K → Bool) where
  pub free_needs : (before left ns : List K) (gone : K → Bool) → ((k : K) → among eq before k ≡ true → gone k ≡ false → among eq left k ≡ true)
      → list_all (among eq before) ns ≡ true → list_any gone ns ≡ false → list_all (among eq left) ns ≡ true
  free_needs before left [] gone turn all none = refl
  free_needs before left (n ∷ ns) gone turn all none =
      and_both (among eq left n) (list_all (among eq left) ns) (turn n (and_left _ _ all) (or_left _ _ none))
      (free_needs before left ns gone turn (and_right (among eq before n) _ all) (or_right (gone n) _ none))

module _ {K C : Type 0} (eq : K → K → Bool) (sound : (a b : K) → eq a b ≡ true → a ≡ b) (same : (a : K) → eq a a ≡ true) where
  -- an order is whole
  pub whole_ready : (state : List (Thing K C)) → ready eq [] state ≡ true → IsWhole eq state
  whole_ready state is = (state, is, λ k. refl)

  -- what stays of an order is an order, also without the keys that go
  pub kept_ready : (gone : K → Bool) (before left : List K) (state : List (Thing K C)) → ready eq before state ≡ true
      → AllByRecursion (λ o. gone o.key ≡ false → list_any gone (needs o) ≡ false) state
      → ((k : K) → among eq left k ≡ true → among eq before k ≡ true)
      → ((k : K) → among eq before k ≡ true → gone k ≡ false → among eq left k ≡ true)
      → ready eq left (filter (λ o. not (gone o.key)) state) ≡ true
  kept_ready gone before left [] is free back turn = refl
  kept_ready gone before left (o ∷ state) is free back turn =
      let first = and_left (not (among eq before o.key) && list_all (among eq before) (needs o)) (ready eq (o.key ∷ before) state) is in
      let rest = and_right (not (among eq before o.key) && list_all (among eq before) (needs o)) (ready eq (o.key ∷ before) state) is in
      let fresh = not_true (among eq before o.key) (and_left _ _ first) in
      let all = and_right (not (among eq before o.key)) _ first in
      by_cases (ready eq left (filter (λ p. not (gone p.key)) (o ∷ state)) ≡ true) (gone o.key)
      (λ away. ap (λ b. ready eq left (cond (not b) (o ∷ filter (λ p. not (gone p.key)) state) (filter (λ p. not (gone p.key)) state))) away
      ∙ kept_ready gone (o.key ∷ before) left state rest free.1
      (λ k there. ap (λ b. eq k o.key || b) (back k there) ∙ or_true (eq k o.key))
      (λ k there out. or_cut (eq k o.key) (among eq before k) (among eq left k)
      (λ is_o. sym out ∙ ap gone (sound k o.key is_o) ∙ away) (λ in_before. turn k in_before out) there))
      (λ stay. ap (λ b. ready eq left (cond (not b) (o ∷ filter (λ p. not (gone p.key)) state) (filter (λ p. not (gone p.key)) state))) stay
      ∙ ready_one eq left o (filter (λ p. not (gone p.key)) state)
      (fresh_by (among eq left o.key) (among eq before o.key) (back o.key) fresh)
      (free_needs eq before left (needs o) gone turn all (free.0 stay))
      (kept_ready gone (o.key ∷ before) (o.key ∷ left) state rest free.1
      (λ k there. or_cases (eq k o.key) (among eq left k) (among eq before k) (back k) there)
      (λ k there out. or_cases (eq k o.key) (among eq before k) (among eq left k) (λ b. turn k b out) there)))
    where
      or_cut : (a b c : Bool) → (a ≡ true → false ≡ true) → (b ≡ true → c ≡ true) → (a || b) ≡ true → c ≡ true
      or_cut true b c no_ turn is = absurd (cc (no_ refl))
      or_cut false b c no_ turn is = turn is

  module _ (done : List (Thing K C)) where
    -- objects but for those that are done
    abbrev others : List (Thing K C) → List (Thing K C)
    others stay = filter (λ o. not (has eq done o.key)) stay

    ready_others : (before left : List K) (stay : List (Thing K C)) → ready eq before stay ≡ true
        → ((k : K) → among eq left k ≡ (among eq before k || has eq done k)) → ready eq left (others stay) ≡ true
    ready_others before left [] is both = refl
    ready_others before left (o ∷ stay) is both =
        let first = and_left (not (among eq before o.key) && list_all (among eq before) (needs o)) (ready eq (o.key ∷ before) stay) is in
        let rest = and_right (not (among eq before o.key) && list_all (among eq before) (needs o)) (ready eq (o.key ∷ before) stay) is in
        let fresh = not_true (among eq before o.key) (and_left _ _ first) in
        let all = and_right (not (among eq before o.key)) _ first in
        by_cases (ready eq left (others (o ∷ stay)) ≡ true) (has eq done o.key)
        (λ there. ap (λ b. ready eq left (cond (not b) (o ∷ others stay) (others stay))) there
        ∙ ready_others (o.key ∷ before) left stay rest (λ k. skip_key (eq k o.key) (among eq before k) (has eq done k) (among eq left k) (both k)
        (λ is_. ap (has eq done) (sound k o.key is_) ∙ there)))
        (λ new. ap (λ b. ready eq left (cond (not b) (o ∷ others stay) (others stay))) new
        ∙ ready_one eq left o (others stay) (both o.key ∙ ap (λ b. b || has eq done o.key) fresh ∙ new)
        (all_weaker (among eq before) (among eq left) (λ k there. both k ∙ ap (λ b. b || has eq done k) there) (needs o) all)
        (ready_others (o.key ∷ before) (o.key ∷ left) stay rest (λ k. add_key (eq k o.key) (among eq before k) (has eq done k) (among eq left k) (both k))))

    turn_round : {X : Type 0} (a b : Option X) → or_else (cond (is_some a) None b) a ≡ or_else a b
    turn_round (Some x) b = refl
    turn_round None b = or_none b
      where
        or_none : {X : Type 0} (b : Option X) → or_else b None ≡ b
        or_none (Some x) = refl
        or_none None = refl

    -- what stays and what is done is whole
    pub whole_done : (stay state : List (Thing K C)) → ready eq [] stay ≡ true → ready eq [] done ≡ true → Same eq state (stay ++ done) → IsWhole eq state
    whole_done stay state stays order is = (
      done ++ others stay,
      ready-append eq [] done (others stay) ∙ and_both _ _ order (ready_others [] (passed [] done) stay stays (λ k. passed_has eq [] done k)),
      λ k. found-append eq done (others stay) k ∙ ap (λ q. or_else q (found eq done k)) (found-filter eq sound (has eq done) stay k)
          ∙ turn_round (found eq done k) (found eq stay k) ∙ sym (found-append eq stay done k) ∙ sym (is k),
    )

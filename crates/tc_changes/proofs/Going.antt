-- What goes with keys, and a test that tells it.
use Rattle.std.proofs.Common.{◌≡◌, ℕ, zero, suc, length, Bool, true, false, not, cond, ◌&&◌, ◌||◌, List, [], ◌∷◌, ◌++◌, Option, Some, None, map, refl, sym, ap}
use Rattle.std.proofs.Common.{◌∙◌, subst, ◌⊎◌, inl, inr}
use Rattle.std.specs.Prelude.{is_some}
use Rattle.std.specs.List.{list_any, list_all, AllByRecursion}
use Rattle.std.proofs.lemmas.List.Folds.{list_any-append}
use Rattle.tc_changes.specs.Model.{Thing, or_else, among, found, has}
use Rattle.tc_changes.specs.Requests.{holds, Goes, itself, below, unheld}
use Rattle.tc_changes.proofs.Lookups.{and_left, and_right, or_right, or_first, or_second, and_two, by_cases, either, or_either, refuted, is_false}
use Rattle.tc_changes.proofs.Lookups.{all_passes, passes_all, any_one, any_at, any_find, at_found, any_found, all_by}

-- the first of some elements that passes a test
first_of : {X : Type 0} (p : X → Bool) (xs : List X)
    → (list_any p xs ≡ false) ⊎ (front : List X) × (x : X) × (rest : List X) × (xs ≡ front ++ x ∷ rest) × (p x ≡ true)
first_of p [] = inl refl
first_of p (x ∷ xs) =
    by_cases ((list_any p (x ∷ xs) ≡ false) ⊎ (front : List _) × (y : _) × (rest : List _) × (x ∷ xs ≡ front ++ y ∷ rest) × (p y ≡ true)) (p x)
    (λ on. inr ([], x, xs, refl, on))
    (λ off. either ((list_any p (x ∷ xs) ≡ false) ⊎ (front : List _) × (y : _) × (rest : List _) × (x ∷ xs ≡ front ++ y ∷ rest) × (p y ≡ true))
    (λ none. inl (ap (λ b. b || list_any p xs) off ∙ none))
    (λ at. inr (x ∷ at.0, at.1, at.2, ap (λ l. x ∷ l) at.3, at.4))
    (first_of p xs))

long_middle : {X : Type 0} (front : List X) (x : X) (rest : List X) → length (front ++ x ∷ rest) ≡ suc (length (front ++ rest))
long_middle [] x rest = refl
long_middle (y ∷ front) x rest = ap suc (long_middle front x rest)

pub is_there : {X : Type 0} (q : Option X) → is_some q ≡ true → (x : X) × (q ≡ Some x)
is_there (Some x) is = (x, refl)
is_there None is = absurd (cc is)

middle_or : (a b c d : Bool) → (a || (b || c)) ≡ true → (b || d) ≡ false → (a || c) ≡ true
middle_or true b c d is off = refl
middle_or false true c d is off = absurd (cc off)
middle_or false false c d is off = is

module _ {K C : Type 0} (eq : K → K → Bool) (sound : (a b : K) → eq a b ≡ true → a ≡ b) (same : (a : K) → eq a a ≡ true) (weak : K → Bool)
    (state : List (Thing K C)) where
  pub goes_more : (ks js : List K) → ((k : K) → among eq ks k ≡ true → among eq js k ≡ true) → (j : K) → Goes eq weak state ks j → Goes eq weak state js j
  goes_more ks js turn _ (itself j is) = itself j (turn j is)
  goes_more ks js turn _ (below j o n is under along) = below j o n is under (goes_more ks js turn n along)
  goes_more ks js turn _ (unheld j h w there is refers all) =
      unheld j h w there is refers (λ i o at at_refers. goes_more ks js turn i (all i o at at_refers))

  pub none_go : (j : K) → Goes eq weak state [] j → ⊥
  none_go _ (itself j is) = cc is
  none_go _ (below j o n is under along) = none_go n along
  none_go _ (unheld j h w there is refers all) = none_go h.key (all h.key h is refers)

  module _ (here : AllByRecursion (λ o. found eq state o.key ≡ Some o) state) (asks : List K) where
    -- an object is under one of these
    abbrev under_goes : List K → Option (Thing K C) → Bool
    under_goes keys None = false
    under_goes keys (Some o) = list_any (among eq keys) o.under

    abbrev others_go : List K → K → Bool
    others_go keys j = list_all (λ h. not (holds eq j h) || among eq keys h.key) state

    -- a key goes too, if these do
    abbrev must : List K → K → Bool
    must keys j = under_goes keys (found eq state j) || ((weak j && has eq state j) && (list_any (holds eq j) state && others_go keys j))

    abbrev Justified : List K → Type 0
    Justified keys = (j : K) → among eq keys j ≡ true → Goes eq weak state asks j

    holds_or : (a b : Bool) → (not a || b) ≡ true → a ≡ true → b ≡ true
    holds_or true b is on = is
    holds_or false b is on = absurd (cc on)

    must_goes : (keys : List K) → Justified keys → (j : K) → must keys j ≡ true → Goes eq weak state asks j
    must_goes keys just j is = either (Goes eq weak state asks j) (by_under (found eq state j) refl)
        (λ two.
        let w = and_left (weak j && has eq state j) _ two in
        let all = and_right (weak j && has eq state j) _ two in
        let h = any_one (holds eq j) (λ o. found eq state o.key ≡ Some o) state here (and_left (list_any (holds eq j) state) _ all) in
        unheld j h.0 (and_left (weak j) _ w) (and_right (weak j) _ w) h.2 h.1 (λ i o at refers.
        let p = at_found eq sound (λ o. (not (holds eq j o) || among eq keys o.key) ≡ true) state i o
        (all_passes (λ o. not (holds eq j o) || among eq keys o.key) state (and_right (list_any (holds eq j) state) _ all)) at in
        just i (ap (among eq keys) p.1 ∙ holds_or (holds eq j o) (among eq keys o.key) p.0 refers)))
        (or_either (under_goes keys (found eq state j)) _ is)
      where
        by_under : (q : Option (Thing K C)) → found eq state j ≡ q → under_goes keys q ≡ true → Goes eq weak state asks j
        by_under None at on = absurd (cc on)
        by_under (Some o) at on = let n = any_find eq sound same (among eq keys) o.under on in below j o n.0 at n.1 (just n.0 n.2)

    -- keys with which no other key has to go
    abbrev Stable : List K → Type 0
    Stable keys = (j : K) → must keys j ≡ true → among eq keys j ≡ true

    stable_goes : (keys : List K) → Stable keys → ((j : K) → among eq asks j ≡ true → among eq keys j ≡ true) → (j : K) → Goes eq weak state asks j
        → among eq keys j ≡ true
    stable_goes keys stable base _ (itself j is) = base j is
    stable_goes keys stable base _ (below j o n is under along) =
        stable j (or_first (under_goes keys (found eq state j)) _
        (ap (under_goes keys) is ∙ any_at eq sound same (among eq keys) o.under n under (stable_goes keys stable base n along)))
    stable_goes keys stable base _ (unheld j h w there is refers all) =
        let rest : AllByRecursion (λ o. (not (holds eq j o) || among eq keys o.key) ≡ true) state =
        all_by (λ o. found eq state o.key ≡ Some o) (λ o. (not (holds eq j o) || among eq keys o.key) ≡ true)
        (λ o at. by_cases ((not (holds eq j o) || among eq keys o.key) ≡ true) (holds eq j o)
        (λ on. or_second (not (holds eq j o)) _ (stable_goes keys stable base o.key (all o.key o at on)))
        (λ off. ap (λ b. not b || among eq keys o.key) off)) state here in
        stable j (or_second (under_goes keys (found eq state j)) _
        (and_two (weak j && has eq state j) _ (and_two (weak j) _ w there)
        (and_two (list_any (holds eq j) state) _ (any_found eq sound (holds eq j) state h.key h is refers)
        (passes_all (λ o. not (holds eq j o) || among eq keys o.key) state rest))))

    abbrev Covers : List K → List K → Type 0
    Covers left keys = (j : K) → has eq state j ≡ true → (among eq left j || among eq keys j) ≡ true

    must_there : (keys : List K) (j : K) → must keys j ≡ true → has eq state j ≡ true
    must_there keys j is = by_found (found eq state j) refl is
      where
        by_found : (q : Option (Thing K C)) → found eq state j ≡ q
            → (under_goes keys q || ((weak j && is_some q) && (list_any (holds eq j) state && others_go keys j))) ≡ true → is_some q ≡ true
        by_found (Some o) at on = refl
        by_found None at on = and_right (weak j) _ (and_left (weak j && false) _ on)

    fresh_false : (a b : Bool) → (a && not b) ≡ false → a ≡ true → b ≡ true
    fresh_false true true is on = refl
    fresh_false true false is on = absurd (cc is)
    fresh_false false b is on = absurd (cc on)

    -- all that goes, a key after another
    grow : (n : ℕ) (left keys : List K) → length left ≡ n → Justified keys → ((j : K) → among eq asks j ≡ true → among eq keys j ≡ true) → Covers left keys
        → (final : List K) × Justified final × Stable final × ((j : K) → among eq asks j ≡ true → among eq final j ≡ true)
    grow zero [] keys long just base covers = (keys, just, (λ j is. covers j (must_there keys j is)), base)
    grow zero (x ∷ left) keys long just base covers = absurd (cc long)
    grow (suc n) left keys long just base covers =
        either ((final : List K) × Justified final × Stable final × ((j : K) → among eq asks j ≡ true → among eq final j ≡ true))
        (λ none. (
          keys,
          just,
          (λ j is. by_cases (among eq keys j ≡ true) (among eq left j)
              (λ in_left. fresh_false (must keys j) (among eq keys j)
              (is_false (must keys j && not (among eq keys j))
              (λ on. refuted (list_any (λ k. must keys k && not (among eq keys k)) left)
              (any_at eq sound same (λ k. must keys k && not (among eq keys k)) left j in_left on) none)) is)
              (λ out. sym (ap (λ b. b || among eq keys j) out) ∙ covers j (must_there keys j is))),
          base,
        ))
        (λ at.
        let j = at.1 in
        let less = at.0 ++ at.2 in
        let short : length less ≡ n = cc (sym (ap length at.3 ∙ long_middle at.0 j at.2) ∙ long) in
        grow n less (j ∷ keys) short
        (λ k in_k. by_cases (Goes eq weak state asks k) (eq k j)
        (λ is. subst (Goes eq weak state asks) (sym (sound k j is)) (must_goes keys just j (and_left (must keys j) _ at.4)))
        (λ other. just k (sym (ap (λ b. b || among eq keys k) other) ∙ in_k)))
        (λ k asked. or_second (eq k j) _ (base k asked))
        (λ k there. by_cases ((among eq less k || (eq k j || among eq keys k)) ≡ true) (eq k j || among eq keys k)
        (λ on. or_second (among eq less k) _ on)
        (λ off.
        let before : (among eq left k || among eq keys k) ≡ true = covers k there in
        let in_left : among eq left k ≡ true =
        either (among eq left k ≡ true) (λ a. a) (λ b. refuted (among eq keys k) b (or_right (eq k j) _ off)) (or_either (among eq left k) _ before) in
        or_first (among eq less k) _
        (list_any-append (eq k) at.0 at.2
        ∙ middle_or (among eq at.0 k) (eq k j) (among eq at.2 k) (among eq keys k)
        (sym (list_any-append (eq k) at.0 (j ∷ at.2)) ∙ ap (λ l. among eq l k) (sym at.3) ∙ in_left) off))))
        (first_of (λ k. must keys k && not (among eq keys k)) left)

    -- keys tell what goes with those that are asked for
    abbrev pub Tells : List K → Type 0
    Tells keys = (j : K) → (among eq keys j ≡ true → Goes eq weak state asks j) × (Goes eq weak state asks j → among eq keys j ≡ true)

    key_there : (s : List (Thing K C)) (j : K) → has eq s j ≡ true → among eq (map (λ o. o.key) s) j ≡ true
    key_there [] j is = absurd (cc is)
    key_there (o ∷ s) j is =
        by_cases (among eq (map (λ o. o.key) (o ∷ s)) j ≡ true) (eq j o.key) (λ on. or_first (eq j o.key) _ on)
        (λ off. or_second (eq j o.key) _ (key_there s j (sym (last_none (found eq s j) (eq j o.key) o off) ∙ is)))
      where
        last_none : (q : Option (Thing K C)) (b : Bool) (x : Thing K C) → b ≡ false → is_some (or_else q (cond b (Some x) None)) ≡ is_some q
        last_none (Some y) b x is = refl
        last_none None true x is = absurd (cc is)
        last_none None false x is = refl

    pub told : (keys : List K) × Tells keys
    told =
        let left : List K = map (λ o. o.key) state in
        let all = grow (length left) left asks refl (λ j is. itself j is) (λ j is. is) (λ j there. or_first (among eq left j) _ (key_there state j there)) in
        (all.0, λ j. (all.1 j, stable_goes all.0 all.2 all.3 j))

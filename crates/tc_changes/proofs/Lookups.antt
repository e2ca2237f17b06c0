-- What is found by a key.
use Rattle.std.proofs.Common.{◌≡◌, Bool, true, false, not, cond, ◌&&◌, ◌||◌, List, [], ◌∷◌, ◌++◌, Option, Some, None, refl, sym, ap, subst, ◌∙◌, ◌⊎◌, inl, inr}
use Rattle.std.specs.Prelude.{filter, is_some}
use Rattle.std.specs.List.{list_any, list_all, AllByRecursion}
use Rattle.tc_changes.specs.Model.{Thing, or_else, at_key, among, found, has}
use Rattle.tc_changes.specs.Requests.{without}

pub and_left : (a b : Bool) → (a && b) ≡ true → a ≡ true
and_left true b is = refl
and_left false b is = absurd (cc is)

pub and_right : (a b : Bool) → (a && b) ≡ true → b ≡ true
and_right true b is = is
and_right false b is = absurd (cc is)

pub and_false : (a : Bool) → (a && false) ≡ false
and_false true = refl
and_false false = refl

pub and_true : (a : Bool) → (a && true) ≡ a
and_true true = refl
and_true false = refl

pub or_left : (a b : Bool) → (a || b) ≡ false → a ≡ false
or_left false b is = refl
or_left true b is = absurd (cc is)

pub or_right : (a b : Bool) → (a || b) ≡ false → b ≡ false
or_right false b is = is
or_right true b is = absurd (cc is)

pub not_true : (a : Bool) → not a ≡ true → a ≡ false
not_true false is = refl
not_true true is = absurd (cc is)

pub or_true : (a : Bool) → (a || true) ≡ true
or_true true = refl
or_true false = refl

-- one of two cases
pub by_cases : (P : Type 0) (b : Bool) → (b ≡ true → P) → (b ≡ false → P) → P
by_cases P true here there = here refl
by_cases P false here there = there refl

pub or_else_assoc : {X : Type 0} (a b c : Option X) → or_else (or_else a b) c ≡ or_else a (or_else b c)
or_else_assoc (Some x) b c = refl
or_else_assoc None b c = refl

pub or_else_none : {X : Type 0} (a : Option X) → or_else a None ≡ a
or_else_none (Some x) = refl
or_else_none None = refl

-- what holds of each element holds of each of a part
module _ {X : Type 0} (P : X → Type 0) where
  pub all_append : (xs ys : List X) → AllByRecursion P xs → AllByRecursion P ys → AllByRecursion P (xs ++ ys)
  all_append [] ys here there = there
  all_append (x ∷ xs) ys here there = (here.0, all_append xs ys here.1 there)

pub all_right : {X : Type 0} (P : X → Type 0) (xs ys : List X) → AllByRecursion P (xs ++ ys) → AllByRecursion P ys
all_right P [] ys all = all
all_right P (x ∷ xs) ys all = all_right P xs ys all.1

pub all_by : {X : Type 0} (P Q : X → Type 0) → ((x : X) → P x → Q x) → (xs : List X) → AllByRecursion P xs → AllByRecursion Q xs
all_by P Q turn [] all = tt
all_by P Q turn (x ∷ xs) all = (turn x all.0, all_by P Q turn xs all.1)

pub none_of : {X : Type 0} (test : X → Bool) (xs : List X) → AllByRecursion (λ x. test x ≡ false) xs → list_any test xs ≡ false
none_of test [] all = refl
none_of test (x ∷ xs) all = ap (λ b. b || list_any test xs) all.0 ∙ none_of test xs all.1

module _ {K C : Type 0} (eq : K → K → Bool) where
  pub found-append : (a b : List (Thing K C)) (k : K) → found eq (a ++ b) k ≡ or_else (found eq b k) (found eq a k)
  found-append [] b k = sym (or_else_none (found eq b k))
  found-append (x ∷ a) b k = ap (λ o. or_else o (at_key eq x k)) (found-append a b k) ∙ or_else_assoc (found eq b k) (found eq a k) (at_key eq x k)

  at_or_else : (b : Bool) (x : Thing K C) (o : Option (Thing K C)) → or_else (cond b (Some x) None) o ≡ cond b (Some x) o
  at_or_else true x o = refl
  at_or_else false x o = refl

  -- one more object
  pub found-push : (s : List (Thing K C)) (x : Thing K C) (k : K) → found eq (s ++ x ∷ []) k ≡ cond (eq k x.key) (Some x) (found eq s k)
  found-push s x k = found-append s (x ∷ []) k ∙ at_or_else (eq k x.key) x (found eq s k)

  without_step : (x : Thing K C) (w : List (Thing K C)) (k : K) (g : Option (Thing K C)) (a b c : Bool) → eq k x.key ≡ c → (a ≡ true → c ≡ b)
      → (b ≡ true → c ≡ a)
      → found eq w k ≡ cond b None g → found eq (cond (not a) (x ∷ w) w) k ≡ cond b None (or_else g (cond c (Some x) None))
  without_step x w k g true true c at one two is = is
  without_step x w k g true false true at one two is = absurd (cc (one refl))
  without_step x w k g true false false at one two is = is ∙ sym (or_else_none g)
  without_step x w k g false true true at one two is = absurd (cc (two refl))
  without_step x w k g false true false at one two is = ap (λ o. or_else o (at_key eq x k)) is ∙ ap (λ b. cond b (Some x) None) at
  without_step x w k g false false c at one two is = ap (λ o. or_else o (at_key eq x k)) is ∙ ap (λ b. or_else g (cond b (Some x) None)) at

  without_append : (j : K) (a b : List (Thing K C)) → without eq j (a ++ b) ≡ without eq j a ++ without eq j b
  without_append j [] b = refl
  without_append j (x ∷ a) b = filter_step (not (eq j x.key)) x (without_append j a b)
    where
      filter_step : (t : Bool) (x : Thing K C) → without eq j (a ++ b) ≡ without eq j a ++ without eq j b
          → cond t (x ∷ without eq j (a ++ b)) (without eq j (a ++ b)) ≡ cond t (x ∷ without eq j a) (without eq j a) ++ without eq j b
      filter_step true x is = ap (λ l. x ∷ l) is
      filter_step false x is = is

  -- objects none of which has a key stay as they are without it
  pub without_none : (j : K) (s : List (Thing K C)) → AllByRecursion (λ o. eq j o.key ≡ false) s → without eq j s ≡ s
  without_none j [] all = refl
  without_none j (x ∷ s) all = ap (λ b. cond (not b) (x ∷ without eq j s) (without eq j s)) all.0 ∙ ap (λ l. x ∷ l) (without_none j s all.1)

  -- one object taken out of the middle
  pub without_one : (o : Thing K C) (front rest : List (Thing K C)) → eq o.key o.key ≡ true → AllByRecursion (λ p. eq o.key p.key ≡ false) front
      → AllByRecursion (λ p. eq o.key p.key ≡ false) rest
      → without eq o.key (front ++ o ∷ rest) ≡ front ++ rest
  without_one o front rest one here there =
      without_append o.key front (o ∷ rest)
      ∙ ap (λ l. l ++ without eq o.key (o ∷ rest)) (without_none o.key front here)
      ∙ ap (λ b. front ++ cond (not b) (o ∷ without eq o.key rest) (without eq o.key rest)) one
      ∙ ap (λ l. front ++ l) (without_none o.key rest there)

  -- an object is found where it is
  pub has_one : (o : Thing K C) (front rest : List (Thing K C)) → eq o.key o.key ≡ true → has eq (front ++ o ∷ rest) o.key ≡ true
  has_one o front rest one =
      ap is_some (found-append front (o ∷ rest) o.key) ∙ some_in (found eq rest o.key) (eq o.key o.key) one (found eq front o.key)
    where
      some_in : (a : Option (Thing K C)) (b : Bool) → b ≡ true → (c : Option (Thing K C)) → is_some (or_else (or_else a (cond b (Some o) None)) c) ≡ true
      some_in (Some x) b is c = refl
      some_in None true is c = refl
      some_in None false is c = absurd (cc is)

module _ {K : Type 0} (eq : K → K → Bool) (sound : (a b : K) → eq a b ≡ true → a ≡ b) (same : (a : K) → eq a a ≡ true) where
  -- keys that differ one way differ the other way
  pub differ : (a b : K) → eq a b ≡ false → eq b a ≡ false
  differ a b is = by_cases (eq b a ≡ false) (eq b a)
      (λ here. absurd (cc (sym is ∙ ap (λ x. eq x b) (sym (sound b a here)) ∙ same b)))
      (λ there. there)

  -- a key that isn't among some is none of those that are
  pub none_among : (before : List K) (j : K) (ns : List K) → among eq before j ≡ false → list_all (among eq before) ns ≡ true → among eq ns j ≡ false
  none_among before j [] not_there all = refl
  none_among before j (n ∷ ns) not_there all =
      by_cases (among eq (n ∷ ns) j ≡ false) (eq j n)
      (λ here. absurd (cc (sym not_there ∙ ap (among eq before) (sound j n here) ∙ and_left _ _ all)))
      (λ there. ap (λ b. b || among eq ns j) there ∙ none_among before j ns not_there (and_right (among eq before n) _ all))

  -- one of some keys that are all among others
  pub in_all : (before ns : List K) (n : K) → list_all (among eq before) ns ≡ true → among eq ns n ≡ true → among eq before n ≡ true
  in_all before [] n all is = absurd (cc is)
  in_all before (m ∷ ns) n all is =
      by_cases (among eq before n ≡ true) (eq n m) (λ here. ap (among eq before) (sound n m here) ∙ and_left (among eq before m) _ all)
      (λ there. in_all before ns n (and_right (among eq before m) _ all) (sym (ap (λ b. b || among eq ns n) there) ∙ is))

module _ {K C : Type 0} (eq : K → K → Bool) (sound : (a b : K) → eq a b ≡ true → a ≡ b) where
  filter_step : (x : Thing K C) (w : List (Thing K C)) (k : K) (g : Option (Thing K C)) (a b c : Bool) → eq k x.key ≡ c → (c ≡ true → a ≡ b)
      → found eq w k ≡ cond b None g → found eq (cond (not a) (x ∷ w) w) k ≡ cond b None (or_else g (cond c (Some x) None))
  filter_step x w k g true true c at one is = is
  filter_step x w k g true false true at one is = absurd (cc (one refl))
  filter_step x w k g true false false at one is = is ∙ sym (or_else_none g)
  filter_step x w k g false true true at one is = absurd (cc (one refl))
  filter_step x w k g false true false at one is = ap (λ o. or_else o (at_key eq x k)) is ∙ ap (λ b. cond b (Some x) None) at
  filter_step x w k g false false c at one is = ap (λ o. or_else o (at_key eq x k)) is ∙ ap (λ b. or_else g (cond b (Some x) None)) at

  -- what is found without the keys that pass a test
  pub found-filter : (test : K → Bool) (s : List (Thing K C)) (k : K) → found eq (filter (λ o. not (test o.key)) s) k ≡ cond (test k) None (found eq s k)
  found-filter test [] k = by_cases _ (test k) (λ here. sym (ap (λ b. cond {A = Option (Thing K C)} b None None) here))
      (λ there. sym (ap (λ b. cond {A = Option (Thing K C)} b None None) there))
  found-filter test (x ∷ s) k = filter_step x (filter (λ o. not (test o.key)) s) k (found eq s k) (test x.key) (test k) (eq k x.key) refl
      (λ here. ap test (sym (sound k x.key here)))
      (found-filter test s k)

  -- what is found without a key
  pub found-without : (j : K) (s : List (Thing K C)) (k : K) → found eq (without eq j s) k ≡ cond (eq k j) None (found eq s k)
  found-without j [] k = by_cases _ (eq k j) (λ here. sym (ap (λ b. cond {A = Option (Thing K C)} b None None) here))
      (λ there. sym (ap (λ b. cond {A = Option (Thing K C)} b None None) there))
  found-without j (x ∷ s) k = without_step eq x (without eq j s) k (found eq s k) (eq j x.key) (eq k j) (eq k x.key) refl
      (λ here. ap (eq k) (sym (sound j x.key here)))
      (λ here. ap (λ y. eq y x.key) (sound k j here))
      (found-without j s k)

pub or_either : (a b : Bool) → (a || b) ≡ true → (a ≡ true) ⊎ (b ≡ true)
or_either true b is = inl refl
or_either false b is = inr is

pub either : {A B : Type 0} (P : Type 0) → (A → P) → (B → P) → A ⊎ B → P
either P here there (inl a) = here a
either P here there (inr b) = there b

pub and_two : (a b : Bool) → a ≡ true → b ≡ true → (a && b) ≡ true
and_two true b here there = there
and_two false b here there = absurd (cc here)

pub or_second : (a b : Bool) → b ≡ true → (a || b) ≡ true
or_second true b is = refl
or_second false b is = is

pub or_first : (a b : Bool) → a ≡ true → (a || b) ≡ true
or_first true b is = refl
or_first false b is = absurd (cc is)

pub and_none : (a b : Bool) → (a ≡ true → b ≡ false) → (a && b) ≡ false
and_none true b is = is refl
and_none false b is = refl

pub bool_same : (b c : Bool) → (b ≡ true → c ≡ true) → (c ≡ true → b ≡ true) → b ≡ c
bool_same true c one two = sym (one refl)
bool_same false true one two = two refl
bool_same false false one two = refl

-- not both
pub refuted : {P : Type 0} (b : Bool) → b ≡ true → b ≡ false → P
refuted true is off = absurd (cc off)
refuted false is off = absurd (cc is)

-- what isn't true is false
pub is_false : (b : Bool) → (b ≡ true → ⊥) → b ≡ false
is_false true no_ = absurd (no_ refl)
is_false false no_ = refl

module _ {X : Type 0} (p : X → Bool) where
  pub any_none : (xs : List X) → list_any p xs ≡ false → AllByRecursion (λ x. p x ≡ false) xs
  any_none [] is = tt
  any_none (x ∷ xs) is = (or_left (p x) _ is, any_none xs (or_right (p x) _ is))

  pub all_passes : (xs : List X) → list_all p xs ≡ true → AllByRecursion (λ x. p x ≡ true) xs
  all_passes [] is = tt
  all_passes (x ∷ xs) is = (and_left (p x) _ is, all_passes xs (and_right (p x) _ is))

  pub passes_all : (xs : List X) → AllByRecursion (λ x. p x ≡ true) xs → list_all p xs ≡ true
  passes_all [] all = refl
  passes_all (x ∷ xs) all = and_two (p x) _ all.0 (passes_all xs all.1)

  -- one of some elements, of all of which something is true, passes a test
  pub any_one : (P : X → Type 0) (xs : List X) → AllByRecursion P xs → list_any p xs ≡ true → (x : X) × (p x ≡ true) × P x
  any_one P [] all is = absurd (cc is)
  any_one P (x ∷ xs) all is =
      by_cases ((x : X) × (p x ≡ true) × P x) (p x) (λ on. (x, on, all.0))
      (λ off. any_one P xs all.1 (sym (ap (λ b. b || list_any p xs) off) ∙ is))

module _ {K : Type 0} (eq : K → K → Bool) (sound : (a b : K) → eq a b ≡ true → a ≡ b) (same : (a : K) → eq a a ≡ true) where
  pub any_at : (p : K → Bool) (ns : List K) (n : K) → among eq ns n ≡ true → p n ≡ true → list_any p ns ≡ true
  any_at p [] n there is = absurd (cc there)
  any_at p (m ∷ ns) n there is =
      by_cases (list_any p (m ∷ ns) ≡ true) (eq n m)
      (λ here. or_first (p m) _ (ap p (sym (sound n m here)) ∙ is))
      (λ other. or_second (p m) _ (any_at p ns n (sym (ap (λ b. b || among eq ns n) other) ∙ there) is))

  pub any_find : (p : K → Bool) (ns : List K) → list_any p ns ≡ true → (n : K) × (among eq ns n ≡ true) × (p n ≡ true)
  any_find p [] is = absurd (cc is)
  any_find p (m ∷ ns) is =
      by_cases ((n : K) × (among eq (m ∷ ns) n ≡ true) × (p n ≡ true)) (p m)
      (λ here. (m, or_first (eq m m) _ (same m), here))
      (λ other.
      let rest = any_find p ns (sym (ap (λ b. b || list_any p ns) other) ∙ is) in
      (rest.0, or_second (eq rest.0 m) _ rest.1, rest.2))

  pub all_at : (p : K → Bool) (ns : List K) (n : K) → list_all p ns ≡ true → among eq ns n ≡ true → p n ≡ true
  all_at p [] n all there = absurd (cc there)
  all_at p (m ∷ ns) n all there =
      by_cases (p n ≡ true) (eq n m) (λ here. ap p (sound n m here) ∙ and_left (p m) _ all)
      (λ other. all_at p ns n (and_right (p m) _ all) (sym (ap (λ b. b || among eq ns n) other) ∙ there))

  pub all_each : (p : K → Bool) (ns : List K) → ((n : K) → among eq ns n ≡ true → p n ≡ true) → list_all p ns ≡ true
  all_each p [] all = refl
  all_each p (m ∷ ns) all =
      and_two (p m) _ (all m (or_first (eq m m) _ (same m))) (all_each p ns (λ n there. all n (or_second (eq n m) _ there)))

  pub none_each : (p : K → Bool) (ns : List K) → ((n : K) → among eq ns n ≡ true → p n ≡ false) → list_any p ns ≡ false
  none_each p [] all = refl
  none_each p (m ∷ ns) all =
      ap (λ b. b || list_any p ns) (all m (or_first (eq m m) _ (same m))) ∙ none_each p ns (λ n there. all n (or_second (eq n m) _ there))

or_found : {X : Type 0} (a : Option X) (b : Bool) (x o : X) → or_else a (cond b (Some x) None) ≡ Some o → (a ≡ Some o) ⊎ (b ≡ true) × (x ≡ o)
or_found (Some y) b x o is = inl is
or_found None true x o is = inr (refl, cc is)
or_found None false x o is = absurd (cc is)

module _ {K C : Type 0} (eq : K → K → Bool) (sound : (a b : K) → eq a b ≡ true → a ≡ b) where
  -- what is true for all objects is true for the one that is found, and that has the key
  pub at_found : (P : Thing K C → Type 0) (s : List (Thing K C)) (k : K) (o : Thing K C) → AllByRecursion P s → found eq s k ≡ Some o → P o × (k ≡ o.key)
  at_found P [] k o all is = absurd (cc is)
  at_found P (x ∷ s) k o all is =
      either (P o × (k ≡ o.key)) (λ deeper. at_found P s k o all.1 deeper)
      (λ here. (subst P here.1 all.0, sound k x.key here.0 ∙ ap (λ y. y.key) here.1)) (or_found (found eq s k) (eq k x.key) x o is)

  pub any_found : (p : Thing K C → Bool) (s : List (Thing K C)) (k : K) (o : Thing K C) → found eq s k ≡ Some o → p o ≡ true → list_any p s ≡ true
  any_found p s k o is on =
      by_cases (list_any p s ≡ true) (list_any p s) (λ yes_. yes_)
      (λ no_. refuted (p o) on (at_found (λ x. p x ≡ false) s k o (any_none p s no_) is).0)

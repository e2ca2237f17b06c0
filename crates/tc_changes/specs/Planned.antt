-- The requests of a plan: deletes, of which none is asked for that another makes needless, and then what is made or changed.
use Rattle.std.specs.Prelude.{◌≡◌, ◌<◌, ℕ, length, Bool, true, false, not, cond, filter, ◌&&◌, ◌||◌, List, [], ◌∷◌, ◌++◌, Option, Some, None, if◌then◌else◌, map, is_some, unwrap_or}
use Rattle.std.specs.List.{list_any, list_all, AllByRecursion}
use Rattle.tc_changes.specs.Model.{Thing, needs, or_else, found}
use Rattle.tc_changes.specs.Requests.{Request, Make, Change, Delete, holds}
use Rattle.tc_changes.specs.Plans.{CanStay}

-- ---- keys that go, each with the key whose delete removes it

-- the key whose delete removes a key
abbrev pub remover : {K : Type 0} → (K → K → Bool) → List (K × K) → K → Option K
remover eq [] k = None
remover eq (pair ∷ removed) k = cond (eq k pair.0) (Some pair.1) (remover eq removed k)

abbrev pub keys_of : {K : Type 0} → List (K × K) → List K
keys_of removed = map (λ pair. pair.0) removed

-- what is found of the first of these keys of which something is found
abbrev pub first_by : {K : Type 0} → (K → Option K) → List K → Option K
first_by find [] = None
first_by find (k ∷ ks) = or_else (find k) (first_by find ks)

-- this is all that is found of these keys
abbrev pub is_all_by : {K : Type 0} → (K → K → Bool) → (K → Option K) → K → List K → Bool
is_all_by eq find j ks = list_all (λ k. eq j (unwrap_or (find k) j)) ks

-- the same of what is referred to, but for what is weak
abbrev pub is_all_but : {K : Type 0} → (K → K → Bool) → (K → Bool) → (K → Option K) → K → List K → Bool
is_all_but eq weak find j ks = list_all (λ k. weak k || eq j (unwrap_or (find k) j)) ks

abbrev pub only_by : {K C : Type 0} → (K → K → Bool) → (K → Bool) → (K → Option K) → Thing K C → Option K → Option K
only_by eq weak find o None = None
only_by eq weak find o (Some j) = if is_all_by eq find j o.under && is_all_but eq weak find j o.refers then Some j else None

-- the one delete that removes all that a delete of an object waits for and that goes, if the object is under some of that
abbrev pub remover_of : {K C : Type 0} → (K → K → Bool) → (K → Bool) → (K → Option K) → Thing K C → Option K
remover_of eq weak find o = only_by eq weak find o (first_by find o.under)

-- one more object goes: with others, by its own delete, or, if it is weak, by itself
abbrev pub add : {K C : Type 0} → (K → K → Bool) → (K → Bool) → List (K × K) → Thing K C → List (K × K)
add eq weak removed o = (o.key, unwrap_or (remover_of eq weak (remover eq removed) o) o.key) ∷ removed

-- ---- what goes, and what stays

-- an object can stay, if this is wanted of its key
abbrev pub stays_by : {K C : Type 0} → (Thing K C → Thing K C → Bool) → Thing K C → Option (Thing K C) → Bool
stays_by fit o None = false
stays_by fit o (Some w) = fit o w

-- the objects that stay refer to a key
abbrev pub held : {K C : Type 0} → (K → K → Bool) → List (Thing K C) → (K → Bool) → K → Bool
held eq state gone k = list_any (λ h. not (gone h.key) && holds eq k h) state

-- an object goes: it can't stay, it needs one that goes, or it is weak and no object that stays refers to it
abbrev pub goes_by : {K C : Type 0} → (K → K → Bool) → (K → Bool) → (Thing K C → Thing K C → Bool) → List (Thing K C) → (K → Bool) → (K → Bool)
    → Thing K C → Bool
goes_by eq weak fit want gone hold o =
    not (stays_by fit o (found eq want o.key)) || (list_any gone (needs o) || (weak o.key && not (hold o.key)))

abbrev pub goes : {K C : Type 0} → (K → K → Bool) → (K → Bool) → (Thing K C → Thing K C → Bool) → List (Thing K C) → List (Thing K C) → (K → Bool)
    → Thing K C → Bool
goes eq weak fit state want gone o = goes_by eq weak fit want gone (held eq state gone) o

-- how many objects are gone
abbrev pub count : {K C : Type 0} → (K → Bool) → List (Thing K C) → ℕ
count gone state = length (filter (λ o. gone o.key) state)

-- the least that goes: nothing that can stay
pub record IsLost {K C : Type 0} (eq : K → K → Bool) (weak : K → Bool) (fit : Thing K C → Thing K C → Bool) (state want : List (Thing K C)) (gone : K → Bool)
    : Type 0 where
  pub lost : AllByRecursion (λ o. gone o.key ≡ goes eq weak fit state want gone o) state
  pub spared : (k : K) → CanStay eq weak fit state want k → gone k ≡ false

-- a round over some objects: of those that were there (`before`), these are gone (`after`)
pub record IsRound {K C : Type 0} (eq : K → K → Bool) (weak : K → Bool) (fit : Thing K C → Thing K C → Bool) (state want : List (Thing K C))
    (before after : K → Bool) (is_more : Bool) (front : List (Thing K C)) : Type 0 where
  pub more : (k : K) → before k ≡ true → after k ≡ true
  -- what is gone had to go, if that before had
  pub rightly : AllByRecursion (λ o. before o.key ≡ true → goes eq weak fit state want before o ≡ true) state
      → AllByRecursion (λ o. after o.key ≡ true → goes eq weak fit state want after o ≡ true) state
  pub sparing : ((k : K) → CanStay eq weak fit state want k → before k ≡ false) → (k : K) → CanStay eq weak fit state want k → after k ≡ false
  -- all that had to go is gone, if there is no more
  pub closed : is_more ≡ false → ((k : K) → after k ≡ before k)
      × AllByRecursion (λ o. before o.key ≡ false → goes eq weak fit state want before o ≡ false) front
  pub grown : is_more ≡ true → count before state < count after state

module _ {K C : Type 0} (eq : K → K → Bool) (weak gone : K → Bool) where
  abbrev pub kept : List (Thing K C) → List (Thing K C)
  kept state = filter (λ o. not (gone o.key)) state

  -- an object isn't asked for: it goes with others, or it is weak
  abbrev pub is_along : Thing K C → Option K → Bool
  is_along o r = is_some r || weak o.key

  -- the keys to ask for the delete of, the last one first
  abbrev pub asked : List (K × K) → List (Thing K C) → List K
  asked removed [] = []
  asked removed (o ∷ state) =
      cond (gone o.key)
      (asked (add eq weak removed o) state ++ cond (is_along o (remover_of eq weak (remover eq removed) o)) [] (o.key ∷ []))
      (asked removed state)

module _ {K C : Type 0} (eq : K → K → Bool) (alike : Thing K C → Thing K C → Bool) where
  -- the request that a wanted object needs, if this is there of its key
  abbrev pub request_of : Thing K C → Option (Thing K C) → List (Request K C)
  request_of w None = Make w ∷ []
  request_of w (Some o) = cond (alike o w) [] (Change w ∷ [])

  abbrev pub makes : List (Thing K C) → List (Thing K C) → List (Request K C)
  makes stay [] = []
  makes stay (w ∷ want) = request_of w (found eq stay w.key) ++ makes stay want

  -- deletes from below, and then what is made or changed, from above
  abbrev pub planned : (K → Bool) → (K → Bool) → List (Thing K C) → List (Thing K C) → List (Request K C)
  planned weak gone state want = map Delete (asked eq weak gone [] state) ++ makes (kept eq weak gone state) want

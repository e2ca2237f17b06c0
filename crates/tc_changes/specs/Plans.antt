-- What a plan promises: what it touches, what it leaves alone, and why there is none.
use Rattle.std.specs.Prelude.{◌≡◌, ⊤, Bool, true, false, cond, ◌||◌, List, [], ◌∷◌, ◌++◌, Some, All, filter, not, ◌&&◌, ◌⊎◌}
use Rattle.std.specs.List.{list_any, list_all, flat_map, IsDistinct}
use Rattle.tc_changes.specs.Model.{Thing, needs, among, found, has}
use Rattle.tc_changes.specs.Requests.{Request, Make, Change, Delete, holds, Goes}

-- an object is as wanted, or can be changed into what is wanted
abbrev pub fits : {X : Type 0} → (X → X → Bool) → (X → X → Bool) → X → X → Bool
fits alike takes o w = alike o w || takes o w

-- the key of the object that a request is about
abbrev pub key_of : {K C : Type 0} → Request K C → K
key_of (Make o) = o.key
key_of (Change o) = o.key
key_of (Delete k) = k

-- a request deletes a key
abbrev pub deletes : {K C : Type 0} → (K → K → Bool) → K → Request K C → Bool
deletes eq k (Delete key) = eq k key
deletes eq k r = false

-- a request changes one of these
abbrev pub changes : {K C : Type 0} → (K → K → Bool) → List K → Request K C → Bool
changes eq keys (Change o) = among eq keys o.key
changes eq keys r = false

-- two requests delete one object, or make one object or change it
abbrev pub is_repeated : {K C : Type 0} → (K → K → Bool) → Request K C → Request K C → Bool
is_repeated eq (Delete j) (Delete k) = eq j k
is_repeated eq (Delete j) r = false
is_repeated eq r (Delete k) = false
is_repeated eq r s = eq (key_of r) (key_of s)

-- the key of the object that a request makes, or changes another into, if it can't be made
abbrev pub barred_by : {K C : Type 0} → (Thing K C → Bool) → Request K C → List K
barred_by can (Make o) = cond (can o) [] (o.key ∷ [])
barred_by can (Change o) = cond (can o) [] (o.key ∷ [])
barred_by can (Delete k) = []

abbrev pub barred_keys : {K C : Type 0} → (Thing K C → Bool) → List (Request K C) → List K
barred_keys can requests = flat_map (barred_by can) requests

-- the keys of requests pass each test that the keys of both states pass, such as to be of one interface
abbrev pub IsConfined : {K C : Type 0} → List (Thing K C) → List (Thing K C) → List (Request K C) → Type 0
IsConfined state want requests = (test : _ → Bool) → list_all (λ o. test o.key) state ≡ true → list_all (λ o. test o.key) want ≡ true
    → list_all (λ r. test (key_of r)) requests ≡ true

module _ {K C : Type 0} (eq : K → K → Bool) where
  -- no request is about a key
  abbrev pub IsUntouched : K → List (Request K C) → Type 0
  IsUntouched k requests = list_any (λ r. eq k (key_of r)) requests ≡ false

  -- a request deletes what is there, makes what is wanted, or changes what is there into what is wanted
  abbrev pub IsAbout : List (Thing K C) → List (Thing K C) → Request K C → Type 0
  IsAbout state want (Delete k) = has eq state k ≡ true
  IsAbout state want (Make o) = found eq want o.key ≡ Some o
  IsAbout state want (Change o) = (found eq want o.key ≡ Some o) × (has eq state o.key ≡ true)

  -- each request is about an object of either state, and no two do the same
  abbrev pub IsExact : List (Thing K C) → List (Thing K C) → List (Request K C) → Type 0
  IsExact state want requests = All (IsAbout state want) requests × IsDistinct (is_repeated eq) requests

  -- no object is made or changed before the change of one that it needs
  abbrev pub IsPlaced : List (Request K C) → Type 0
  IsPlaced [] = ⊤
  IsPlaced (Delete k ∷ requests) = IsPlaced requests
  IsPlaced (Make o ∷ requests) = (list_any (changes eq (needs o)) requests ≡ false) × IsPlaced requests
  IsPlaced (Change o ∷ requests) = (list_any (changes eq (needs o)) requests ≡ false) × IsPlaced requests

  abbrev pub IsDeleted : List (Request K C) → K → Type 0
  IsDeleted requests k = list_any (deletes eq k) requests ≡ true

module _ {K C : Type 0} (eq : K → K → Bool) (weak : K → Bool) where
  -- no request deletes what is weak
  abbrev pub IsGone : List (Request K C) → Type 0
  IsGone requests = (k : K) → weak k ≡ true → list_any (deletes eq k) requests ≡ false

  -- all that a delete of an object waits for: what it needs, but for the weak ones to which it only refers
  abbrev pub bound : Thing K C → List K
  bound o = o.under ++ filter (λ k. not (weak k)) o.refers

  -- an object needs something that doesn't go with the delete of a key alone, but with another one's, or with a weak object
  abbrev pub NeedsOther : List (Thing K C) → List (Request K C) → K → Thing K C → Type 0
  NeedsOther state requests j o = (n : K) × (i : K) × (among eq (bound o) n ≡ true) × (IsDeleted eq requests i ⊎ (weak i ≡ true))
      × (eq i j ≡ false) × Goes eq weak state (i ∷ []) n

  -- no delete is sent of an object that goes with another one, unless it needs something that goes with a third
  abbrev pub IsLeast : List (Thing K C) → List (Request K C) → Type 0
  IsLeast state requests = (j k : K) → IsDeleted eq requests j → IsDeleted eq requests k → eq j k ≡ false → Goes eq weak state (j ∷ []) k
      → (o : Thing K C) × (found eq state k ≡ Some o) × NeedsOther state requests j o

module _ {K C : Type 0} (eq : K → K → Bool) (weak : K → Bool) (fit : Thing K C → Thing K C → Bool) (state want : List (Thing K C)) where
  -- a test passes objects that can stay together: each is as wanted or can be changed into that, all that it needs can stay, and so can one that
  -- refers to it, if it is weak
  abbrev pub StayTogether : (K → Bool) → Type 0
  StayTogether stay = (k : K) → stay k ≡ true → (o w : Thing K C) × (found eq state k ≡ Some o) × (found eq want k ≡ Some w) × (fit o w ≡ true)
      × (list_all stay (needs o) ≡ true) × (weak k ≡ true → list_any (λ h. holds eq k h && stay h.key) state ≡ true)

  abbrev pub CanStay : K → Type 0
  CanStay k = (stay : K → Bool) × StayTogether stay × (stay k ≡ true)

  -- an object stays if it is as wanted: all that it needs can stay, and so can one that refers to it, if it is weak
  abbrev pub Stays : Thing K C → Type 0
  Stays o = ((n : K) → among eq (needs o) n ≡ true → CanStay n)
      × (weak o.key ≡ true → (h : Thing K C) × (found eq state h.key ≡ Some h) × (holds eq o.key h ≡ true) × CanStay h.key)

  -- an object that is equal in both states isn't touched, if it stays
  abbrev pub IsLeftAlone : List (Request K C) → Type 0
  IsLeftAlone requests = (o : Thing K C) → found eq state o.key ≡ Some o → found eq want o.key ≡ Some o → Stays o → IsUntouched eq o.key requests

  -- what can stay isn't deleted
  abbrev pub IsSpared : List (Request K C) → Type 0
  IsSpared requests = (k : K) → CanStay k → list_any (deletes eq k) requests ≡ false

  -- what is wanted of a key can't be made, and isn't there already, or doesn't stay
  abbrev pub IsBarred : (Thing K C → Bool) → K → Type 0
  IsBarred can k = (o : Thing K C) × (found eq want k ≡ Some o) × (can o ≡ false) × (found eq state k ≡ Some o → Stays o → ⊥)

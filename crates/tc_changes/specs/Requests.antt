-- What a kernel does with requests: which it takes, and what they leave.
use Rattle.std.specs.Prelude.{◌≡◌, ℕ, take, Bool, true, false, not, ◌&&◌, ◌||◌, List, [], ◌∷◌, ◌++◌, Option, Some, None, filter, length, ◌==◌}
use Rattle.std.specs.List.{list_any, list_all, AllByRecursion}
use Rattle.tc_changes.specs.Model.{Thing, needs, among, found, has, Same, IsWhole}

-- a request: to make an object, to change the one that has this one's key into it, to delete one
pub data Request (K C : Type 0) : Type 0 where
  Make : Thing K C → Request K C
  Change : Thing K C → Request K C
  Delete : K → Request K C

-- an object refers to a key
abbrev pub holds : {K C : Type 0} → (K → K → Bool) → K → Thing K C → Bool
holds eq k o = among eq o.refers k

module _ {K C : Type 0} (eq : K → K → Bool) where
  -- an object can be made: it isn't there, and all that it needs is
  abbrev pub can_come : List (Thing K C) → Thing K C → Bool
  can_come state o = not (has eq state o.key) && list_all (has eq state) (needs o)

  -- an old object can be changed into this
  abbrev pub can_become : (Thing K C → Thing K C → Bool) → Option (Thing K C) → Thing K C → Bool
  can_become takes None o = false
  can_become takes (Some old) o = takes old o

  -- an object can be changed into this one: it is there, the kernel takes the change, and all that the new one needs is there
  abbrev pub can_change : (Thing K C → Thing K C → Bool) → List (Thing K C) → Thing K C → Bool
  can_change takes state o = can_become takes (found eq state o.key) o && list_all (has eq state) (needs o)

  -- a state but for a key
  abbrev pub without : K → List (Thing K C) → List (Thing K C)
  without k state = filter (λ o. not (eq k o.key)) state

  -- no object that stays refers to one that goes
  abbrev pub NoneHolds : List (Thing K C) → (K → Bool) → Type 0
  NoneHolds state away = AllByRecursion (λ o. away o.key ≡ false → list_any away o.refers ≡ false) state

-- `weak` are the keys of objects that stand only as long as others refer to them
module _ {K C : Type 0} (eq : K → K → Bool) (weak : K → Bool) where
  -- a change of the old object into the new one takes no reference from a weak one
  abbrev pub keeps_weak : Thing K C → Thing K C → Bool
  keeps_weak old new = list_all (λ k. not (weak k) || among eq new.refers k) old.refers

  -- the changes that are taken, and take no reference from a weak object
  abbrev pub keeping : (Thing K C → Thing K C → Bool) → Thing K C → Thing K C → Bool
  keeping takes old new = takes old new && keeps_weak old new

  -- what goes with these keys: they; each object that is under one that goes; and a weak one that others refer to, if all of these go
  pub data Goes (state : List (Thing K C)) (keys : List K) : K → Type 0 where
    itself : (j : K) → among eq keys j ≡ true → Goes state keys j
    below : (j : K) (o : Thing K C) (n : K) → found eq state j ≡ Some o → among eq o.under n ≡ true → Goes state keys n → Goes state keys j
    unheld : (j : K) (h : Thing K C) → weak j ≡ true → has eq state j ≡ true → found eq state h.key ≡ Some h → holds eq j h ≡ true
        → ((i : K) (o : Thing K C) → found eq state i ≡ Some o → holds eq j o ≡ true → Goes state keys i) → Goes state keys j

  -- a test tells what goes with a key
  abbrev pub IsAlong : List (Thing K C) → K → (K → Bool) → Type 0
  IsAlong state k away = AllByRecursion (λ o. (away o.key ≡ true → Goes state (k ∷ []) o.key) × (Goes state (k ∷ []) o.key → away o.key ≡ true)) state

  -- a state takes a request, and becomes another. No request deletes what is weak
  abbrev pub Sends : (Thing K C → Thing K C → Bool) → List (Thing K C) → Request K C → List (Thing K C) → Type 0
  Sends takes state (Make o) after = (can_come eq state o ≡ true) × (after ≡ state ++ o ∷ [])
  Sends takes state (Change o) after = (can_change eq takes state o ≡ true) × (after ≡ without eq o.key state ++ o ∷ [])
  Sends takes state (Delete k) after = (weak k ≡ false) × (has eq state k ≡ true)
      × ((away : K → Bool) × IsAlong state k away × NoneHolds eq state away × (after ≡ filter (λ o. not (away o.key)) state))

  -- a state takes requests one after another
  pub data Runs (takes : Thing K C → Thing K C → Bool) : List (Thing K C) → List (Request K C) → List (Thing K C) → Type 0 where
    none : (state : List (Thing K C)) → Runs takes state [] state
    next : (state : List (Thing K C)) (r : Request K C) (middle : List (Thing K C)) (rs : List (Request K C)) (after : List (Thing K C))
        → Sends takes state r middle → Runs takes middle rs after → Runs takes state (r ∷ rs) after

  -- none of the requests is refused, and they lead to a state
  abbrev pub Leads : (Thing K C → Thing K C → Bool) → List (Thing K C) → List (Request K C) → List (Thing K C) → Type 0
  Leads takes state requests want = (after : List (Thing K C)) × Runs takes state requests after × Same eq after want

  -- a cut after any number of the requests leaves a whole state
  abbrev pub LeavesWhole : (Thing K C → Thing K C → Bool) → List (Thing K C) → List (Request K C) → Type 0
  LeavesWhole takes state requests = (n : ℕ) → (middle : List (Thing K C)) × Runs takes state (take n requests) middle × IsWhole eq middle

  -- what goes along is certain: two such tests agree on each object
  abbrev pub AlongIsCertain : List (Thing K C) → Type 0
  AlongIsCertain state = (k : K) (one two : K → Bool) → IsAlong state k one → IsAlong state k two → AllByRecursion (λ o. one o.key ≡ two o.key) state

  -- ---- the weak objects of a state, as a plan needs them

  -- an object, of which and of those before it these are the keys that they are under: if it is weak, it needs nothing and another refers to it; and
  -- neither it nor one before it is under a weak one to which it refers
  abbrev pub is_settled : List (Thing K C) → List K → Thing K C → Bool
  is_settled state unders o = (not (weak o.key) || ((length o.under == 0 && length o.refers == 0) && list_any (holds eq o.key) state))
      && list_all (λ k. not (weak k && among eq unders k)) o.refers

  abbrev pub settled : List (Thing K C) → List K → List (Thing K C) → Bool
  settled state unders [] = true
  settled state unders (o ∷ rest) = is_settled state (unders ++ o.under) o && settled state (unders ++ o.under) rest

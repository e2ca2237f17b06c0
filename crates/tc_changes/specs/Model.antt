-- A state: the objects that a kernel has, and their order.
use Rattle.std.specs.Prelude.{◌≡◌, Bool, true, false, not, cond, ◌&&◌, List, [], ◌∷◌, ◌++◌, Option, Some, None, is_some}
use Rattle.std.specs.List.{list_any, list_all}

-- an object: its key, the keys that it is under (it goes with each), those that it only refers to (none goes before it), and its
-- configuration
pub record Thing (K C : Type 0) : Type 0 where
  pub key : K
  pub under : List K
  pub refers : List K
  pub config : C

-- all that has to be there for it to be there
abbrev pub needs : {K C : Type 0} → Thing K C → List K
needs o = o.under ++ o.refers

-- the keys that these objects are under
abbrev pub unders : {K C : Type 0} → List (Thing K C) → List K
unders [] = []
unders (o ∷ state) = o.under ++ unders state

-- a key is one of these
abbrev pub among : {K : Type 0} → (K → K → Bool) → List K → K → Bool
among eq keys k = list_any (eq k) keys

abbrev pub or_else : {X : Type 0} → Option X → Option X → Option X
or_else (Some x) o = Some x
or_else None o = o

module _ {K C : Type 0} (eq : K → K → Bool) where
  -- an object, if this is its key
  abbrev pub at_key : Thing K C → K → Option (Thing K C)
  at_key o k = cond (eq k o.key) (Some o) None

  -- the object of a key
  abbrev pub found : List (Thing K C) → K → Option (Thing K C)
  found [] k = None
  found (o ∷ state) k = or_else (found state k) (at_key o k)

  abbrev pub has : List (Thing K C) → K → Bool
  has state k = is_some (found state k)

  -- the same objects, whatever their order
  abbrev pub Same : List (Thing K C) → List (Thing K C) → Type 0
  Same a b = (k : K) → found a k ≡ found b k

  -- an object can come after these: none has its key, and all that it needs is among them
  abbrev pub is_next : List K → Thing K C → Bool
  is_next before o = not (among eq before o.key) && list_all (among eq before) (needs o)

  -- no object has the key of one before it, and each comes after all that it needs; `before` are the keys of those before
  abbrev pub ready : List K → List (Thing K C) → Bool
  ready before [] = true
  ready before (o ∷ state) = is_next before o && ready (o.key ∷ before) state

  -- this is the key of the first object that isn't in order after those before it
  abbrev pub IsStuck : List (Thing K C) → K → Type 0
  IsStuck state k = (front : List (Thing K C)) × (o : Thing K C) × (rest : List (Thing K C))
      × (state ≡ front ++ o ∷ rest) × (k ≡ o.key) × (ready [] front ≡ true) × (ready [] (front ++ o ∷ []) ≡ false)

  -- some order of a state has each object after all that it needs
  abbrev pub IsWhole : List (Thing K C) → Type 0
  IsWhole state = (order : List (Thing K C)) × (ready [] order ≡ true) × Same order state

-- Plans for a part of a state: the interfaces, blocks and actions that are named. All else stays as it is.
use Rattle.std.specs.Prelude.{◌≡◌, ℕ, ℤ, negsuc, Bool, true, false, not, List, map, filter, ◌++◌, ◌&&◌, if◌then◌else◌}
use Rattle.std.specs.List.{list_all, list_any, AllByRecursion}
use Rattle.std.specs.Ordering.{int_eq}
use Rattle.tc_changes.specs.Model.{among, needs}
use Rattle.tc_changes.specs.Objects.{KernelThing, same_key}
use Rattle.tc_changes.specs.Plans.{key_of}
use Rattle.tc_changes.specs.Requests.{Request, holds}
use Rattle.tc_changes.specs.declared.key.Key.{Key}
use Rattle.tc_changes.specs.declared.key.Key.TheVariants.{Place, Class, Block, Chain, Priority, Filter, Action}

-- an interface, or the block that interfaces share (its interface is -1, and the parent is its number)
abbrev pub around : ℤ → ℕ → Key
around index parent = if int_eq index (negsuc 0) then Block parent else Place index 0

-- where an object is: an interface or a block; an action is by itself
abbrev pub scope_of : Key → Key
scope_of (Place index parent) = around index parent
scope_of (Class index handle) = Place index 0
scope_of (Block number) = Block number
scope_of (Chain index parent number) = around index parent
scope_of (Priority index parent number priority) = around index parent
scope_of (Filter index parent number priority handle) = around index parent
scope_of (Action kind index) = Action kind index

-- where these keys and the objects of a state are
abbrev pub scopes : List Key → List KernelThing → List Key
scopes keys want = map scope_of keys ++ map (λ o. scope_of o.key) want

abbrev pub is_named : List Key → Key → Bool
is_named named k = among same_key named (scope_of k)

-- no object elsewhere needs one where something is named
abbrev pub AreFree : List Key → List KernelThing → Type 0
AreFree named state = AllByRecursion (λ o. is_named named o.key ≡ false → list_any (is_named named) (needs o) ≡ false) state

-- to each weak object elsewhere one elsewhere refers
abbrev pub AreHeld : (Key → Bool) → List Key → List KernelThing → Type 0
AreHeld weak named state = AllByRecursion (λ o. is_named named o.key ≡ false → weak o.key ≡ true
    → list_any (λ h. holds same_key o.key h && not (is_named named h.key)) state ≡ true) state

-- what is wanted where something is named, and all else as it is
abbrev pub completed : List Key → List KernelThing → List KernelThing → List KernelThing
completed named state want = want ++ filter (λ o. not (is_named named o.key)) state

-- each request is about an object where something is named
abbrev pub IsWithin : List Key → List (Request Key (List ℕ)) → Type 0
IsWithin named requests = list_all (λ r. is_named named (key_of r)) requests ≡ true

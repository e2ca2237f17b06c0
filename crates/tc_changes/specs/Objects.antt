-- Objects, steps and plans as the model sees them.
use Rattle.std.specs.Prelude.{◌≡◌, ⊤, [], ℕ, Bool, ◌&&◌, List, map, bytes_eq, slice_get, option_and_then}
use Rattle.std.specs.Cmp.Lexicographic.{pointwise}
use Rattle.std.specs.HashMap as hash
use Rattle.std.specs.HashMap.{HashMap}
use Rattle.std.specs.HashSet as bag
use Rattle.std.specs.HashSet.{HashSet}
use Rattle.tc_changes.specs.Model.{Thing, among, found}
use Rattle.tc_changes.specs.Requests.{Request}
use Rattle.tc_changes.specs.Requests as model
use Rattle.tc_changes.specs.Planned.{remover}
use Rattle.tc_changes.specs.declared.key.Key.{Key}
use Rattle.tc_changes.specs.declared.object.Object.{Object}
use Rattle.tc_changes.specs.declared.step.Step.{Step}
use Rattle.tc_changes.specs.declared.step.Step.TheVariants.{Make, Change, Delete}
use Rattle.tc_changes.specs.declared.step.Plan.{Plan}
use Rattle.tc_changes.specs.declared.step.Plan.TheVariants.{Steps, Refused}
use Rattle.tc_changes.specs.contracts.key.KeyPartialEq.TheImpl.{ghosts}

abbrev pub same_key : Key → Key → Bool
same_key = ghosts.eq

-- an object whose configuration is bytes
abbrev pub KernelThing : Type 0
KernelThing = Thing Key (List ℕ)

abbrev pub thing : {A : Type 0} → Object A → KernelThing
thing o = record { key = o.key; under = o.under.items; refers = o.refers.items; config = o.config.items }

abbrev pub things : {A : Type 0} → List (Object A) → List KernelThing
things objects = map thing objects

abbrev pub alike : KernelThing → KernelThing → Bool
alike a b = same_key a.key b.key && (pointwise same_key a.under b.under && (pointwise same_key a.refers b.refers && bytes_eq a.config b.config))

-- what a step asks of the kernel
abbrev pub request : {A : Type 0} → Step A → Request Key (List ℕ)
request (Make o) = model.Make (thing o)
request (Change o) = model.Change (thing o)
request (Delete key) = model.Delete key

-- what is true for the requests of a plan
abbrev pub IfSteps : {A : Type 0} → Plan A → (List (Request Key (List ℕ)) → Type 0) → Type 0
IfSteps (Steps steps) P = P (map request steps.items)
IfSteps (Refused keys) P = ⊤

-- what is true for the keys because of which there is none
abbrev pub IfRefused : {A : Type 0} → Plan A → (List Key → Type 0) → Type 0
IfRefused (Steps steps) P = ⊤
IfRefused (Refused keys) P = P keys.items

abbrev pub IsRefused : {A : Type 0} → Plan A → Type 0
IsRefused (Steps steps) = ⊥
IsRefused (Refused keys) = ⊤

-- a plan without steps
abbrev pub IsNothing : {A : Type 0} → Plan A → Type 0
IsNothing (Steps steps) = steps.items ≡ []
IsNothing (Refused keys) = ⊥

-- ---- sets and maps of keys

-- a set has these keys
abbrev pub IsSetOf : {S : Type 0} → HashSet Key S → List Key → Type 0
IsSetOf set keys = (k : Key) → bag.contains same_key set k ≡ among same_key keys k

-- a map has the place, among all, of each of these objects by its key
abbrev pub IsIndexOf : {S : Type 0} → List KernelThing → HashMap Key ℕ S → List KernelThing → Type 0
IsIndexOf all index some = (k : Key) → option_and_then (slice_get all) (hash.get same_key index k) ≡ found same_key some k

-- a map has the removers of these keys
abbrev pub IsRemoved : {S : Type 0} → HashMap Key Key S → List (Key × Key) → Type 0
IsRemoved map removed = (k : Key) → hash.get same_key map k ≡ remover same_key removed k

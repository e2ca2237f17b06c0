-- All that a plan promises.
use Rattle.std.specs.Prelude.{◌≡◌, ◌≢◌, ⊤, [], ◌∷◌, ◌++◌, true, false, Bool, List, All}
use Rattle.tc_changes.specs.Model.{Same, IsStuck, unders}
use Rattle.tc_changes.specs.Requests.{Leads, LeavesWhole, keeping, is_settled}
use Rattle.tc_changes.specs.Plans.{fits, IsExact, IsConfined, IsLeftAlone, IsSpared, IsGone, IsLeast, IsPlaced, IsBarred, barred_keys}
use Rattle.tc_changes.specs.Objects.{KernelThing, same_key, alike, IfSteps, IfRefused, IsNothing, IsRefused}
use Rattle.tc_changes.specs.declared.key.Key.{Key}
use Rattle.tc_changes.specs.declared.plan_error.PlanError.{PlanError}
use Rattle.tc_changes.specs.declared.plan_error.PlanError.TheVariants.{State, Wanted, Weak, Elsewhere, OutOfMemory}
use Rattle.tc_changes.specs.declared.step.Plan.{Plan}

-- an object is as wanted, or can be changed into that without loss of what is weak
abbrev pub suits : (Key → Bool) → (KernelThing → KernelThing → Bool) → KernelThing → KernelThing → Bool
suits weak takes = fits alike (keeping same_key weak takes)

-- what a plan from a state to another promises, by the objects that stand only as long as others refer to them, the changes that the kernel takes and the
-- objects that it makes
pub record IsPlan {A : Type 0} (weak : Key → Bool) (takes : KernelThing → KernelThing → Bool) (can_make : KernelThing → Bool) (now want : List KernelThing)
    (plan : Plan A) : Type 0 where
  -- the steps lead there
  pub reaches : IfSteps plan (λ steps. Leads same_key weak (keeping same_key weak takes) now steps want)
  -- each is about an object of either state, and no two do the same
  pub exact : IfSteps plan (λ steps. IsExact same_key now want steps)
  pub confined : IfSteps plan (λ steps. IsConfined now want steps)
  -- none between equal states
  pub idle : Same same_key now want → IsNothing plan
  -- what is as wanted isn't touched, and what can stay isn't deleted
  pub keeps : IfSteps plan (λ steps. IsLeftAlone same_key weak (suits weak takes) now want steps)
  pub spares : IfSteps plan (λ steps. IsSpared same_key weak (suits weak takes) now want steps)
  -- what is weak isn't deleted
  pub gone : IfSteps plan (λ steps. IsGone same_key weak steps)
  -- no delete is sent that another makes needless, and nothing is made before the change of what it needs
  pub least : IfSteps plan (λ steps. IsLeast same_key weak now steps)
  pub placed : IfSteps plan (λ steps. IsPlaced same_key steps)
  -- a state to plan from is left wherever they stop
  pub resumes : IfSteps plan (λ steps. LeavesWhole same_key weak (keeping same_key weak takes) now steps)
  -- only what can be made is made, and only what can't be made is refused
  pub sends : IfSteps plan (λ steps. barred_keys can_make steps ≡ [])
  pub refuses : IfRefused plan (λ keys. (keys ≢ []) × All (IsBarred same_key weak (suits weak takes) now want can_make) keys)
  pub returns : All (λ o. can_make o ≡ true) want → IsRefused plan → ⊥

-- this is the key of an object of a state whose weak objects aren't as a plan needs them, the first because of which
abbrev pub IsLoose : (Key → Bool) → List KernelThing → Key → Type 0
IsLoose weak state k = (front : List KernelThing) × (o : KernelThing) × (rest : List KernelThing) × (state ≡ front ++ o ∷ rest) × (k ≡ o.key)
    × (is_settled same_key weak state (unders front ++ o.under) o ≡ false)

-- an error names the first object that isn't in order, in the state that it names
abbrev pub IsUnready : (Key → Bool) → List KernelThing → List KernelThing → PlanError → Type 0
IsUnready weak now want (State key) = IsStuck same_key now key
IsUnready weak now want (Wanted key) = IsStuck same_key want key
IsUnready weak now want (Weak key) = IsLoose weak now key
IsUnready weak now want (Elsewhere key) = ⊥
IsUnready weak now want OutOfMemory = ⊤

-- the same of a plan for a part of a state: of what is wanted nothing is said by itself
abbrev pub IsUnreadyNow : (Key → Bool) → List KernelThing → PlanError → Type 0
IsUnreadyNow weak now (State key) = IsStuck same_key now key
IsUnreadyNow weak now (Wanted key) = ⊥
IsUnreadyNow weak now (Weak key) = IsLoose weak now key
IsUnreadyNow weak now (Elsewhere key) = ⊤
IsUnreadyNow weak now OutOfMemory = ⊤

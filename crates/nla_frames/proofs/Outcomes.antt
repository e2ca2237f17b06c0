-- The outcome of a whole, from the outcomes of its parts.
use Rattle.std.proofs.Common.{◌≡◌, ◌≢◌, Ok, Err, refl, subst}
use Rattle.std.specs.Prelude.{IfOk}
use Rattle.nla_frames.specs.declared.error.DecodeError.{DecodeError}
use Rattle.nla_frames.specs.declared.error.DecodeError.TheVariants.{OutOfMemory}
use Rattle.nla_frames.specs.Fault.{Outcome, Returns, IfRefused, UnlessMemory, read_as, refused, seen}

-- the fault of a part is the fault of the whole, if the part's outcome is that fault
pub Returns-err : {X Y : Type 0} (e : DecodeError) (part : Outcome X) (whole : Outcome Y) → Returns (refused e) part → (part ≡ refused e → whole ≡ refused e)
    → Returns (refused e) whole
Returns-err OutOfMemory part whole given leads = tt
Returns-err _ part whole given leads = leads given

-- the outcome is this fault
pub Returns-exact : {X : Type 0} (e : DecodeError) (outcome : Outcome X) → outcome ≡ refused e → Returns (refused e) outcome
Returns-exact OutOfMemory outcome is = tt
Returns-exact _ outcome is = is

-- an error other than `OutOfMemory` is the outcome
pub Returns-refused : {X : Type 0} (e : DecodeError) (outcome : Outcome X) → e ≢ OutOfMemory → Returns (refused e) outcome → outcome ≡ refused e
Returns-refused OutOfMemory outcome not given = absurd (not refl)
Returns-refused _ outcome not given = given

-- a property of the value that is read is a property of the result, unless memory ran out
pub UnlessMemory-Returns : {X Y : Type 0} (see : X → Y) (r : Outcome X) (outcome : Outcome Y) → Returns (seen see r) outcome → (y : Y) → outcome ≡ read_as y
    → (P : Y → Type 0) → P y → UnlessMemory r (λ x. P (see x))
UnlessMemory-Returns see (Ok x) outcome given y is P holds = let same : y ≡ see x = cc (given, is) in subst P same holds
UnlessMemory-Returns see (Err OutOfMemory) outcome given y is P holds = refl
UnlessMemory-Returns see (Err _) outcome given y is P holds = absurd (cc (given, is))

module _ {X Y : Type 0} (see : X → Y) (r : Outcome X) (outcome : Outcome Y) (given : Returns (seen see r) outcome) where
  -- a property of the value that is read is a property of the result
  pub IfOk-Returns : (P : Y → Type 0) → ((y : Y) → outcome ≡ read_as y → P y) → IfOk r (λ x. P (see x))
  IfOk-Returns P holds = answered r given
    where
      answered : (q : Outcome X) → Returns (seen see q) outcome → IfOk q (λ x. P (see x))
      answered (Ok x) is = holds (see x) is
      answered (Err e) is = tt

  -- a property of the fault is a property of the error
  pub IfRefused-Returns : (Q : DecodeError → Type 0) → ((e : DecodeError) → outcome ≡ refused e → Q e) → IfRefused r Q
  IfRefused-Returns Q holds = answered r given
    where
      answered : (q : Outcome X) → Returns (seen see q) outcome → IfRefused q Q
      answered (Ok x) is = tt
      answered (Err e) is = λ not. holds e (Returns-refused e outcome not is)

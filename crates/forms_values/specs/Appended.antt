-- What making bytes appends, and what a search in JSON finds; or why it fails.
use Rattle.std.specs.Prelude.{◌≡◌, ℕ, List, ◌++◌, Option, Some, None, option_map, Result, Ok, Err}
use Rattle.forms_values.specs.declared.error.MakeError.{MakeError}
use Rattle.forms_values.specs.declared.error.MakeError.TheVariants.{OutOfMemory}
use Rattle.forms_values.specs.declared.maker.Stop.{Stop}
use Rattle.forms_values.specs.declared.maker.Stop.TheVariants as stop

-- memory ran out, or the result is None
abbrev pub Fails : {T : Type 0} → Option T → MakeError → Type 0
Fails wanted e = (e ≡ OutOfMemory → ⊥) → wanted ≡ None

-- memory ran out, or there is nothing to append
abbrev pub Stops : {T : Type 0} → Option T → Stop → Type 0
Stops wanted s = (s ≡ stop.OutOfMemory → ⊥) → wanted ≡ None

-- this is appended, if it is made at all
abbrev pub Appended : {T : Type 0} → Option (List ℕ) → List ℕ → List ℕ → Result T Stop → Type 0
Appended wanted old new (Ok u) = option_map (λ b. old ++ b) wanted ≡ Some new
Appended wanted old new (Err s) = Stops wanted s

-- this is found, if it is there at all
abbrev pub Found : {T S : Type 0} → (T → S) → Option S → Result T MakeError → Type 0
Found see wanted (Ok v) = wanted ≡ Some (see v)
Found see wanted (Err e) = Fails wanted e

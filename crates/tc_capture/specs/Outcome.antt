-- Outcomes of reading.
use Rattle.std.specs.Prelude.{Result, Ok, Err}
use Rattle.tc_capture.specs.declared.error.CaptureError.{CaptureError}

abbrev pub Outcome : Type 0 → Type 0
Outcome X = Result X CaptureError

-- an outcome, with `f` applied to its value
abbrev pub seen : {X Y : Type 0} → (X → Y) → Outcome X → Outcome Y
seen f (Ok x) = Ok (f x)
seen f (Err e) = Err e

-- the next reading, after a value that was read
abbrev pub then_read : {X Y : Type 0} → Outcome X → (X → Outcome Y) → Outcome Y
then_read (Ok x) f = f x
then_read (Err e) f = Err e

-- a value that was read, and the state after it
abbrev pub paired : {X Y S : Type 0} → Outcome X → (X → Y) → S → Outcome (Y × S)
paired (Ok x) f s = Ok (f x, s)
paired (Err e) f s = Err e

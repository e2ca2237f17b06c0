-- Faults, and postconditions of calls that may run out of memory.
use Rattle.std.specs.Prelude.{◌≡◌, ◌≢◌, IfErr, ℕ, List, Result, Ok, Err, codes, MatchResult}
use Rattle.nla_frames.specs.declared.error.DecodeError.{DecodeError}
use Rattle.nla_frames.specs.declared.error.DecodeError.TheVariants.{BufferTooSmall, FrameHeaderShort, FrameTooLong, FrameTooShort, WrongLength, NotUtf8}
use Rattle.nla_frames.specs.declared.error.DecodeError.TheVariants.{SelectorShort, XstatsShort, MissingKind, DuplicateKind, OutOfMemory}

-- the name of a fault
abbrev pub name_of : DecodeError → List ℕ
name_of (BufferTooSmall len needed) = codes "BufferTooSmall"
name_of (FrameHeaderShort left) = codes "FrameHeaderShort"
name_of (FrameTooLong length left) = codes "FrameTooLong"
name_of (FrameTooShort length) = codes "FrameTooShort"
name_of (WrongLength expected got) = codes "WrongLength"
name_of NotUtf8 = codes "NotUtf8"
name_of (SelectorShort len needed) = codes "SelectorShort"
name_of (XstatsShort len) = codes "XstatsShort"
name_of MissingKind = codes "MissingKind"
name_of DuplicateKind = codes "DuplicateKind"
name_of OutOfMemory = codes "OutOfMemory"

-- the outcome of reading: a value, or the first fault
abbrev pub Outcome : Type 0 → Type 0
Outcome X = Result X DecodeError

abbrev pub read_as : {X : Type 0} → X → Outcome X
read_as x = Ok x

abbrev pub refused : {X : Type 0} → DecodeError → Outcome X
refused e = Err e

-- the result is this outcome, unless memory ran out
abbrev pub Returns : {X : Type 0} → Outcome X → Outcome X → Type 0
Returns (Ok x) outcome = outcome ≡ Ok x
Returns (Err OutOfMemory) outcome = Unit {0}
Returns (Err e) outcome = outcome ≡ Err e

-- a refusal other than `OutOfMemory` satisfies `Q`
abbrev pub IfRefused : {X : Type 0} → Outcome X → (DecodeError → Type 0) → Type 0
IfRefused r Q = IfErr r (λ e. e ≢ OutOfMemory → Q e)

-- a value that satisfies `P`, or `OutOfMemory`
abbrev pub UnlessMemory : {X : Type 0} → Outcome X → (X → Type 0) → Type 0
UnlessMemory r P = MatchResult r P (λ e. e ≡ OutOfMemory)

-- a result, with `see` applied to its value
abbrev pub seen : {X Y : Type 0} → (X → Y) → Outcome X → Outcome Y
seen see (Ok x) = Ok (see x)
seen see (Err e) = Err e

infixl 10 ◌>>=◌
-- the second reading begins where the first succeeded
abbrev pub ◌>>=◌ : {X Y : Type 0} → Outcome X → (X → Outcome Y) → Outcome Y
(Ok x) >>= next = next x
(Err e) >>= next = Err e

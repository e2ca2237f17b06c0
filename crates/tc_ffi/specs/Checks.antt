-- The result of a check.
use Rattle.std.specs.Prelude.{◌≡◌, ◌⊎◌, ℕ, List, ◌≤◌, Bool, length, unwrap_or, if◌then◌else◌}
use Rattle.tc_wire.specs.Facade.{Message, Words}
use Rattle.tc_faults.specs.declared.what.What.{What}
use Rattle.tc_faults.specs.Located.{items_of_message, message_offset}
use Rattle.tc_status.specs.Status.{numbers_of}
use Rattle.tc_ffi.specs.Calls.{Keeps, ReadsSome, Refuses}
use Rattle.tc_ffi.specs.declared.verdict.VtcVerdict.{VtcVerdict}
use Rattle.tc_ffi.specs.declared.verdict.VtcFault.{VtcFault}

-- 1: it is true; 0: it isn't
abbrev pub Says : ℕ → Type 0 → Type 0
Says verdict Holds = ((verdict ≡ 1) × Holds) ⊎ ((verdict ≡ 0) × (Holds → ⊥))

abbrev pub Numbers : ℕ → Bool → Type 0
Numbers verdict holds = verdict ≡ (if holds then 1 else 0)

-- the length of the message if it can be encoded, else 0
abbrev pub IsCounted : Type 0 → List ℕ → ℕ → Type 0
IsCounted Fits bytes count = (Fits × (count ≡ length bytes)) ⊎ ((Fits → ⊥) × (count ≡ 0))

-- the verdict on a message and its bytes
pub record IsJudged (words : Words Message) (bytes : List ℕ) (m : Message) (v : VtcVerdict) : Type 0 where
  pub fits : Says v.fits (words.Fits m)
  pub settled : Says v.settled (words.Settled m)
  pub canonical : Says v.canonical (words.Canonical bytes)
  pub counted : IsCounted (words.Fits m) (words.bytes m) v.length

-- the offset of the first fault of the bytes; 0 if they have none
abbrev pub fault_offset : What → List ℕ → ℕ
fault_offset what bytes = unwrap_or (message_offset (items_of_message what bytes)) 0

-- the first fault of the bytes, with its numbers and its place; or memory ran out
pub record IsRefused (words : Words Message) (what : What) (bytes : List ℕ) (f : VtcFault) (status : ℕ) : Type 0 where
  pub refuses : Refuses words bytes status
  pub numbers : (f.first, f.second) ≡ numbers_of refuses.fault
  pub place : f.offset ≡ fault_offset what bytes
  pub inside : f.offset ≤ length bytes

-- 0: a message, with its verdict; else the fault
abbrev pub Checks : Words Message → What → List ℕ → VtcVerdict → VtcFault → ℕ → Type 0
Checks words what bytes v f status =
    ((status ≡ 0) × ReadsSome words bytes (λ m. IsJudged words bytes m v)) ⊎ IsRefused words what bytes f status

-- the output of a check: a verdict or a fault; the other struct is unchanged
pub record IsChecked (words : Words Message) (what : What) (bytes : List ℕ) (old v : VtcVerdict) (older f : VtcFault) (status : ℕ) : Type 0 where
  pub checks : Checks words what bytes v f status
  pub verdict_kept : Keeps old v status
  pub fault_kept : status ≡ 0 → f ≡ older

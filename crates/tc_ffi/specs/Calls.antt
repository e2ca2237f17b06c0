-- Status and output of a call.
use Rattle.std.specs.Prelude.{◌≡◌, ◌≢◌, ◌⊎◌, ℕ, List, ◌<◌, length, Some}
use Rattle.serde_json.specs.Sent.{IsTextOf}
use Rattle.forms_values.specs.declared.form.Form.{Form}
use Rattle.forms_values.specs.Sent.{events}
use Rattle.forms_json.specs.Shown.{shown_of}
use Rattle.forms_kinds.specs.Table.{tc_tables}
use Rattle.tc_wire.specs.Facade.{DecodeError, OutOfMemory, Message, Words, Writes}
use Rattle.tc_status.specs.Status.{status_of}

-- unless the status is 0, this is unchanged
abbrev pub Keeps : {T : Type 0} → T → T → ℕ → Type 0
Keeps old new status = status ≢ 0 → new ≡ old

-- unless the status is 0 or 13, this number is unchanged
abbrev pub KeepsNumber : ℕ → ℕ → ℕ → Type 0
KeepsNumber old new status = status ≢ 0 → status ≢ 13 → new ≡ old

-- 0: these bytes are at the front of the buffer; 13: it has no room for them
pub record IsPlaced (bytes old new : List ℕ) (len status : ℕ) : Type 0 where
  pub counted : len ≡ length bytes
  pub placed : ((status ≡ 0) × Writes bytes old new) ⊎ ((status ≡ 13) × (length old < length bytes))

-- the JSON text of any bytes; 11: out of memory
abbrev pub Shows : Form → List ℕ → List ℕ → List ℕ → ℕ → ℕ → Type 0
Shows form bytes old new len status =
    ((text : List ℕ) × IsTextOf (Some (events (shown_of tc_tables form bytes))) text × IsPlaced text old new len status) ⊎ (status ≡ 11)

-- the output of a call that writes JSON
pub record IsShown (form : Form) (bytes old new : List ℕ) (old_len len status : ℕ) : Type 0 where
  pub shows : Shows form bytes old new len status
  pub kept : Keeps old new status
  pub len_kept : KeepsNumber old_len len status

module _ (words : Words Message) (bytes : List ℕ) where
  -- the bytes read as a message with this property
  pub record ReadsSome (Holds : Message → Type 0) : Type 0 where
    pub message : Message
    pub reads : words.Reads bytes message
    pub holds : Holds message

  -- 1 to 10: the number of their first fault; 11: out of memory
  pub record Refuses (status : ℕ) : Type 0 where
    pub fault : DecodeError
    pub first : fault ≢ OutOfMemory → words.Fault bytes fault
    pub number : status ≡ status_of fault

  -- 12: they read as a message that can't be encoded
  abbrev pub IsUnfit : ℕ → Type 0
  IsUnfit status = (status ≡ 12) × ReadsSome (λ m. words.Fits m → ⊥)

  -- other bytes with this property are placed; or the reason why there are none
  abbrev pub Places : (List ℕ → Type 0) → List ℕ → List ℕ → ℕ → ℕ → Type 0
  Places Holds old new len status = (((others : List ℕ) × Holds others × IsPlaced others old new len status) ⊎ IsUnfit status) ⊎ Refuses status

  -- the bytes of the message
  abbrev pub Rewrites : List ℕ → List ℕ → ℕ → ℕ → Type 0
  Rewrites = Places (λ written. ReadsSome (λ m. words.Fits m × (written ≡ words.bytes m)))

  -- the canonical bytes, after this number of rewrites
  abbrev pub Settles : (List ℕ → List ℕ → ℕ → Type 0) → List ℕ → List ℕ → ℕ → ℕ → ℕ → Type 0
  Settles LeadsTo old new len rewrites = Places (λ settled. LeadsTo bytes settled rewrites) old new len

  -- the output of a call that rewrites
  pub record IsRewritten (old new : List ℕ) (old_len len status : ℕ) : Type 0 where
    pub rewrites : Rewrites old new len status
    pub kept : Keeps old new status
    pub len_kept : KeepsNumber old_len len status

  -- the output of a call that settles
  pub record IsSettled (LeadsTo : List ℕ → List ℕ → ℕ → Type 0) (old new : List ℕ) (old_len len old_rewrites rewrites status : ℕ) : Type 0 where
    pub settles : Settles LeadsTo old new len rewrites status
    pub kept : Keeps old new status
    pub len_kept : KeepsNumber old_len len status
    pub rewrites_kept : KeepsNumber old_rewrites rewrites status

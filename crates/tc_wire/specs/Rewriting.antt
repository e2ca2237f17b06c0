-- The results of rewriting and settling, and why they fail.
use Rattle.std.specs.Prelude.{◌≡◌, ◌≢◌, ◌⊎◌, ℕ, List, Ok, Err}
use Rattle.nla_frames.specs.declared.error.DecodeError.{DecodeError}
use Rattle.nla_frames.specs.declared.error.DecodeError.TheVariants.{OutOfMemory as NoMemory}
use Rattle.nla_frames.specs.Fault.{Outcome}
use Rattle.nla_frames.specs.Codec.{Codec}
use Rattle.tc_meaning.specs.Message.{Message}
use Rattle.tc_meaning.specs.Whole.{Words, tc_words, action_words}
use Rattle.tc_laws.specs.Loose.{nuls_act}
use Rattle.tc_laws.specs.Norm.{norm_tc, norm_act}
use Rattle.tc_laws.specs.Rewriting.{SettlesIn}
use Rattle.tc_wire.specs.declared.rewriting.RewriteError.{RewriteError}
use Rattle.tc_wire.specs.declared.rewriting.RewriteError.TheVariants.{Decode, DoesNotFit, OutOfMemory}
pub use Rattle.tc_laws.specs.Rewriting.{Rewrites, RewritesTc, RewritesAct}

-- ---- refusals

-- the refusal that a fault becomes
abbrev pub refusal : DecodeError → RewriteError
refusal NoMemory = OutOfMemory
refusal e = Decode e

-- why bytes can't be rewritten, from their reading, their fault, and whether the value fits
abbrev pub RefusedBy : {X : Type 0} → (X → Type 0) → (DecodeError → Type 0) → (X → Type 0) → RewriteError → Type 0
RefusedBy Reads Fault Fits (Decode e) = (e ≢ NoMemory) × Fault e
RefusedBy Reads Fault Fits DoesNotFit = (x : _) × Reads x × (Fits x → ⊥)
RefusedBy Reads Fault Fits OutOfMemory = Unit {0}

abbrev pub Refused : Words Message → List ℕ → RewriteError → Type 0
Refused w bytes = RefusedBy (w.Reads bytes) (w.Fault bytes) w.Fits

abbrev pub RefusedTc : List ℕ → RewriteError → Type 0
RefusedTc = Refused tc_words

abbrev pub RefusedAct : List ℕ → RewriteError → Type 0
RefusedAct = Refused action_words

-- ---- one rewrite, of any type

-- the reading fits, and these are its bytes
abbrev pub WrittenOf : {X : Type 0} → Codec (List ℕ) X → Outcome X → List ℕ → Type 0
WrittenOf codec outcome written = (x : _) × (outcome ≡ Ok x) × codec.Fits x × (written ≡ codec.write x)

abbrev pub RefusedOf : {X : Type 0} → Codec (List ℕ) X → Outcome X → RewriteError → Type 0
RefusedOf codec outcome = RefusedBy (λ x. outcome ≡ Ok x) (λ e. outcome ≡ Err e) codec.Fits

-- ---- rewrites until the bytes are canonical

-- exactly this many rewrites lead to these bytes, which are canonical and read as the norm of the reading
pub record Settles (w : Words Message) (norm : Message → Message) (bytes settled : List ℕ) (count : ℕ) : Type 0 where
  pub message : Message
  pub reads : w.Reads bytes message
  pub settles : SettlesIn w count bytes settled (norm message)

abbrev pub SettlesTc : List ℕ → List ℕ → ℕ → Type 0
SettlesTc = Settles tc_words norm_tc

abbrev pub SettlesAct : List ℕ → List ℕ → ℕ → Type 0
SettlesAct = Settles action_words norm_act

-- 0 if the bytes are canonical, else this number
abbrev pub CountIs : Type 0 → ℕ → ℕ → Type 0
CountIs IsCanon many count = (IsCanon × (count ≡ 0)) ⊎ ((IsCanon → ⊥) × (count ≡ many))

-- the bytes read as an action message that fits, `written` is the bytes of its norm, and `nuls` the longest run of NULs at
-- the end of one of its warnings
pub record TrimmedOf (bytes written : List ℕ) (nuls : ℕ) : Type 0 where
  pub message : Message
  pub reads : action_words.Reads bytes message
  pub fits : action_words.Fits message
  pub is : written ≡ action_words.bytes (norm_act message)
  pub most : nuls ≡ nuls_act message

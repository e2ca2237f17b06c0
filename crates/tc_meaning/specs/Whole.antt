-- The definitions of both messages: a traffic control message, whose kinds are set by its frames of type 1, and an
-- action message, which has no kind.
use Rattle.std.specs.Prelude.{◌≡◌, ◌↔◌, ◌⊎◌, List, ℕ, Ok, Err}
use Rattle.nla_frames.specs.declared.error.DecodeError.{DecodeError}
use Rattle.nla_frames.specs.declared.error.DecodeError.TheVariants.{OutOfMemory}
use Rattle.nla_frames.specs.Fault.{Outcome}
use Rattle.nla_frames.specs.Frame.{Frame}
use Rattle.nla_frames.specs.Place.{Sets}
use Rattle.nla_frames.specs.Reading.{keep}
use Rattle.tc_canon.specs.Descriptor.{Field, Rows}
use Rattle.tc_canon.specs.Layouts.{tc_header, action_message_header}
use Rattle.tc_canon.specs.Canonical.{CanonTc, CanonAct}
use Rattle.tc_canon.specs.Tables.Messages.{attributes, action_message_attributes}
use Rattle.tc_meaning.specs.Tree.{Attribute}
use Rattle.tc_meaning.specs.Message.{Message, ReadsWith, FaultWith, read_with, message_bytes, TypedMessage, FitsMessage, SettledWith, SettledByPlace}
use Rattle.tc_meaning.specs.Message.{kind_of_frame, kind_of_attribute}

-- the definitions for one type of message
pub record Words (X : Type 0) : Type 1 where
  -- the bytes read as this message
  pub Reads : List ℕ → X → Type 0
  -- this is the first fault of the bytes
  pub Fault : List ℕ → DecodeError → Type 0
  -- reading as a function
  pub read : List ℕ → Outcome X
  -- the bytes of a message
  pub bytes : X → List ℕ
  pub Typed : X → Type 0
  pub Fits : X → Type 0
  pub Settled : X → Type 0
  -- settled, stated for each attribute at its place
  pub SettledPlaces : X → Type 0
  pub Canonical : List ℕ → Type 0

-- the definitions for a header and a table of attributes; these frames and these attributes set a kind
abbrev pub words_of : Sets Frame → Sets Attribute → List Field → Rows → (List ℕ → Type 0) → Words Message
words_of by_frame by_value layout rows Canonical = record {
  Reads = ReadsWith by_frame layout rows;
  Fault = FaultWith by_frame layout rows;
  read = read_with by_frame layout rows;
  bytes = message_bytes layout rows;
  Typed = TypedMessage layout rows;
  Fits = FitsMessage layout rows;
  Settled = SettledWith layout rows by_value;
  SettledPlaces = SettledByPlace layout rows by_value;
  Canonical = Canonical;
}

-- the laws between these definitions, for any bytes
pub record Correspond {X : Type 0} (w : Words X) (bytes : List ℕ) : Type 0 where
  -- reading returns a message if and only if the grammar reads the bytes as it, and a fault if and only if it is the
  -- first one of the grammar, which is never `OutOfMemory`
  pub reading : (m : X) → (w.read bytes ≡ Ok m) ↔ w.Reads bytes m
  pub fault : (e : DecodeError) → (w.read bytes ≡ Err e) ↔ w.Fault bytes e
  pub not_memory : w.Fault bytes OutOfMemory → ⊥
  -- a message that was read is typed
  pub typed : (m : X) → w.Reads bytes m → w.Typed m
  -- a message that fits is written as bytes that read as it if and only if it is settled
  pub back : (m : X) → w.Typed m → w.Fits m → w.Reads (w.bytes m) m ↔ w.Settled m
  -- a message that was read and fits is written as the same bytes if and only if they are canonical
  pub same : (m : X) → w.Reads bytes m → w.Fits m → (w.bytes m ≡ bytes) ↔ w.Canonical bytes
  -- canonical bytes read as a settled message that fits, the bytes of such a message are canonical, and the same bytes are of the same message
  pub canonical : w.Canonical bytes → (m : X) × w.Reads bytes m × w.Fits m × w.Settled m
  pub settled : (m : X) → w.Typed m → w.Fits m → w.Settled m → w.Canonical (w.bytes m)
  pub equal : (m n : X) → w.Typed m → w.Fits m → w.Settled m → w.Typed n → w.Fits n → w.Settled n → w.bytes m ≡ w.bytes n → m ≡ n
  -- settled is the same as settled place by place
  pub places : (m : X) → w.Settled m ↔ w.SettledPlaces m

-- all bytes read as one message and have no fault, or read as none and have one fault
pub record OneOutcome {X : Type 0} (w : Words X) (bytes : List ℕ) : Type 0 where
  pub some : ((m : X) × w.Reads bytes m) ⊎ ((e : DecodeError) × w.Fault bytes e)
  pub one_reading : (m n : X) → w.Reads bytes m → w.Reads bytes n → m ≡ n
  pub one_fault : (d e : DecodeError) → w.Fault bytes d → w.Fault bytes e → d ≡ e
  pub not_both : (m : X) (e : DecodeError) → w.Reads bytes m → w.Fault bytes e → ⊥

-- ---- a traffic control message

abbrev pub tc_words : Words Message
tc_words = words_of kind_of_frame kind_of_attribute tc_header attributes CanonTc

abbrev pub ReadsTc : List ℕ → Message → Type 0
ReadsTc = tc_words.Reads

abbrev pub FaultTc : List ℕ → DecodeError → Type 0
FaultTc = tc_words.Fault

abbrev pub read_tc : List ℕ → Outcome Message
read_tc = tc_words.read

abbrev pub tc_bytes : Message → List ℕ
tc_bytes = tc_words.bytes

abbrev pub TypedTc : Message → Type 0
TypedTc = tc_words.Typed

abbrev pub FitsTc : Message → Type 0
FitsTc = tc_words.Fits

abbrev pub SettledTc : Message → Type 0
SettledTc = tc_words.Settled

-- ---- an action message

abbrev pub action_words : Words Message
action_words = words_of keep keep action_message_header action_message_attributes CanonAct

abbrev pub ReadsAct : List ℕ → Message → Type 0
ReadsAct = action_words.Reads

abbrev pub FaultAct : List ℕ → DecodeError → Type 0
FaultAct = action_words.Fault

abbrev pub read_act : List ℕ → Outcome Message
read_act = action_words.read

abbrev pub act_bytes : Message → List ℕ
act_bytes = action_words.bytes

abbrev pub TypedAct : Message → Type 0
TypedAct = action_words.Typed

abbrev pub FitsAct : Message → Type 0
FitsAct = action_words.Fits

abbrev pub SettledAct : Message → Type 0
SettledAct = action_words.Settled

-- The report on a text: the text that is written, and the exit status.
use Rattle.std.specs.Prelude.{◌≡◌, ◌⊎◌, ◌↔◌, ℕ, ◌<◌, ◌≤◌, Bool, true, false, IsTrue, Result, Ok, Err}
use Rattle.std.specs.Prelude.{List, [], ◌++◌, length, codes}
use Rattle.hex.specs.Hex.{decode_of, encode_lower}
use Rattle.hex.specs.declared.error.FromHexError.{FromHexError}
use Rattle.tc_wire.specs.Facade.{DecodeError, name_of, OutOfMemory, Message, Words, tc_words, action_words}
use Rattle.tcrewrite_lib.specs.Text.{most_text, without_spaces}
use Rattle.tc_capture.specs.declared.kind.MessageType.{MessageType}
use Rattle.tc_capture.specs.declared.kind.MessageType.TheVariants.{Tc, Action}

-- the text that is written, and the exit status
pub record Report : Type 0 where
  pub text : List ℕ
  pub status : ℕ

-- a line of text
abbrev pub line : List ℕ → List ℕ
line text = text ++ codes "\n"

-- one line and a status
abbrev pub one_line : List ℕ → ℕ → Report
one_line text status = record { text = line text; status = status }

-- yes or no
abbrev pub yes_or_no : Bool → List ℕ
yes_or_no true = codes "yes"
yes_or_no false = codes "no"

-- the line of the emitted bytes, if the message fits
abbrev pub bytes_line : Bool → List ℕ → List ℕ
bytes_line true bytes = line (codes "bytes " ++ encode_lower bytes)
bytes_line false bytes = []

-- the lines for an accepted message: whether it fits, is settled and was canonical, and its bytes
abbrev pub accepted : Bool → Bool → Bool → List ℕ → List ℕ
accepted fits settled canonical bytes =
    line (codes "fits " ++ yes_or_no fits)
    ++ line (codes "settled " ++ yes_or_no settled)
    ++ line (codes "canonical " ++ yes_or_no canonical)
    ++ bytes_line fits bytes

module _ {X : Type 0} (words : Words X) where
  -- the bytes read as a message: its properties are reported, and its bytes
  pub record Accepts (bytes : List ℕ) (r : Report) : Type 0 where
    pub message : X
    pub fits : Bool
    pub settled : Bool
    pub canonical : Bool
    pub reads : words.Reads bytes message
    pub fits_iff : IsTrue fits ↔ words.Fits message
    pub settled_iff : IsTrue settled ↔ words.Settled message
    pub canonical_iff : IsTrue canonical ↔ words.Canonical bytes
    pub is : r ≡ record { text = accepted fits settled canonical (words.bytes message); status = 0 }

  -- the bytes have a first fault: its name is reported
  pub record Refuses (bytes : List ℕ) (r : Report) : Type 0 where
    pub fault : DecodeError
    pub first : words.Fault bytes fault
    pub is : r ≡ one_line (codes "refused " ++ name_of fault) 1

  -- the report on the bytes of a message
  abbrev pub ReportsAs : List ℕ → Report → Type 0
  ReportsAs bytes r = Accepts bytes r ⊎ Refuses bytes r

-- the definitions for a type of message
abbrev pub words_of : MessageType → Words Message
words_of Tc = tc_words
words_of Action = action_words

-- the report on bytes as a message of a type
abbrev pub ReportsBytes : MessageType → List ℕ → Report → Type 0
ReportsBytes mode bytes r = ReportsAs (words_of mode) bytes r

-- the report on decoded hex
abbrev pub ReportsDecoded : MessageType → Result (List ℕ) FromHexError → Report → Type 0
ReportsDecoded mode (Ok bytes) r = ReportsBytes mode bytes r
ReportsDecoded mode (Err e) r = r ≡ one_line (codes "bad hex") 2

-- the report on a text
abbrev pub IsReport : MessageType → List ℕ → Report → Type 0
IsReport mode text r =
    ((most_text < length text) × (r ≡ one_line (codes "too long") 2))
    ⊎ ((length text ≤ most_text) × ReportsDecoded mode (decode_of (without_spaces text)) r)

-- the report if memory ran out
abbrev pub no_memory : Report
no_memory = one_line (codes "refused " ++ name_of OutOfMemory) 1

-- Version 1 of a traffic control message, which reads options under an unknown kind as a list of one option, and the
-- upgrade, which turns its messages into those that are read now. All else is the same.
use Rattle.std.specs.Prelude.{◌≡◌, ℕ, zero, suc, Bool, List, [], ◌∷◌, length, take, slice_get, Some, Ok, ◌==◌, ◌&&◌, not, if◌then◌else◌}
use Rattle.nla_frames.specs.declared.error.DecodeError.{DecodeError}
use Rattle.nla_frames.specs.Fault.{Outcome}
use Rattle.nla_frames.specs.Frame.{Frame, type_of}
use Rattle.nla_frames.specs.Place.{InForce, kind_then}
use Rattle.nla_frames.specs.Reading.{Reads}
use Rattle.tc_canon.specs.Descriptor.{is_known, table}
use Rattle.tc_canon.specs.Layouts.{tc_header}
use Rattle.tc_canon.specs.Tables.Messages.{attributes}
use Rattle.tc_canon.specs.Tables.Options.{option_kinds}
use Rattle.tc_meaning.specs.Tree.{items, Attribute, known, kept, other, none, and}
use Rattle.tc_meaning.specs.Own.{kind_of_frame, kind_of_attribute}
use Rattle.tc_meaning.specs.Meaning.{table_codec}
use Rattle.tc_meaning.specs.Message.{Message, ReadsBy, FaultBy, read_by}

-- a frame with this word holds options of an unknown kind
abbrev pub are_unknown_options : List ℕ → ℕ → Bool
are_unknown_options kind word = type_of word == 2 && not (is_known option_kinds kind)

-- options that are only this option, kept raw
abbrev pub lone_option : ℕ → List ℕ → Attribute
lone_option word value = known 2 (items (and (other word value) none))

-- ---- the reading of version 1

-- one attribute: options of an unknown kind are one option, with the word and the value of the frame itself
abbrev pub read_attribute1 : Reads Attribute
read_attribute1 kind f =
    if are_unknown_options kind f.word then Ok (lone_option f.word f.value) else
    (table_codec (table attributes)).read kind f

abbrev pub ReadsTc1 : List ℕ → Message → Type 0
ReadsTc1 = ReadsBy read_attribute1 kind_of_frame tc_header

abbrev pub FaultTc1 : List ℕ → DecodeError → Type 0
FaultTc1 = FaultBy read_attribute1 kind_of_frame tc_header

unfoldable pub read_tc1 : List ℕ → Outcome Message
read_tc1 bytes = read_by read_attribute1 kind_of_frame tc_header bytes

-- ---- the upgrade

-- one attribute under a kind: options that are one `Other` of type 2 under an unknown kind become that word and value,
-- kept raw; every other attribute is unchanged
abbrev pub upgrade_attribute : List ℕ → Attribute → Attribute
upgrade_attribute kind (known (suc (suc zero)) (items (and (other word value) none))) =
    if are_unknown_options kind word then kept 2 word value else lone_option word value
upgrade_attribute kind x = x

-- a frame that version 1 reads as this attribute, and that is now read as its upgrade
pub record WasRead (kind : List ℕ) (x : Attribute) : Type 0 where
  pub frame : Frame
  pub first : read_attribute1 kind frame ≡ Ok x
  pub second : (table_codec (table attributes)).read kind frame ≡ Ok (upgrade_attribute kind x)

-- attributes after a kind, each under the kind that is set last before it
abbrev pub upgrade_each : List ℕ → List Attribute → List Attribute
upgrade_each kind [] = []
upgrade_each kind (x ∷ xs) = upgrade_attribute kind x ∷ upgrade_each (kind_then kind_of_attribute kind x) xs

abbrev pub upgrade : Message → Message
upgrade m = record { header = m.header; body = upgrade_each [] m.body }

-- after these attributes, under the kind that is set last among them, one is the upgrade of the other
pub record UpgradedAfter (before : List Attribute) (x y : Attribute) : Type 0 where
  pub kind : List ℕ
  pub in_force : InForce kind_of_attribute [] before kind
  pub is_upgraded : y ≡ upgrade_attribute kind x

-- the upgrade, stated for each place by itself
pub record IsUpgrade (m n : Message) : Type 0 where
  pub header : n.header ≡ m.header
  pub as_many : length n.body ≡ length m.body
  pub each : (i : ℕ) (x y : Attribute) → slice_get m.body i ≡ Some x → slice_get n.body i ≡ Some y → UpgradedAfter (take i m.body) x y

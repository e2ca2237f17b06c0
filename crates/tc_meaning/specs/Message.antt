-- Whole messages: the grammar of their readings and first faults, and their bytes.
use Rattle.std.specs.Prelude.{◌≡◌, ◌⊎◌, ℕ, ◌+◌, ◌<◌, ◌≤◌, ◌^◌, List, [], ◌++◌, length, take, drop, Ok, Err, nat_lt, if◌then◌else◌, ◌↔◌}
use Rattle.std.specs.List.{AllByRecursion}
use Rattle.nla_frames.specs.declared.error.DecodeError.{DecodeError}
use Rattle.nla_frames.specs.declared.error.DecodeError.TheVariants.{BufferTooSmall}
use Rattle.nla_frames.specs.Fault.{Outcome, ◌>>=◌}
use Rattle.nla_frames.specs.Frame.{Frame}
use Rattle.nla_frames.specs.Place.{Sets}
use Rattle.nla_frames.specs.Reading.{Reads, read_list}
use Rattle.nla_frames.specs.ListGrammar.{ListReads, IsListFault}
use Rattle.nla_frames.specs.Emission.{list_bytes, ListFits}
use Rattle.nla_frames.specs.Codec.{Codec, SettledEach, SettledAtEach}
use Rattle.nla_frames.specs.CanonList.{IsCanonList}
use Rattle.tc_canon.specs.Descriptor.{Field, Rows, table}
use Rattle.tc_canon.specs.Canonical.{CanonFields, CanonTable}
use Rattle.tc_meaning.specs.Tree.{Scalar, Attribute}
use Rattle.tc_meaning.specs.Layout.{size_of, read_fields, fields_bytes, TypedFields, SettledFields}
pub use Rattle.tc_meaning.specs.Own.{kind_of_frame, kind_of_attribute}
use Rattle.tc_meaning.specs.Meaning.{table_codec}

-- a header, and the attributes after it
pub record Message : Type 0 where
  pub header : List Scalar
  pub body : List Attribute

-- a message, for a reading of one attribute: a header of this layout, then a list of frames, each read under the kind
-- that is set last before its place
module _ (reads : Reads Attribute) (sets : Sets Frame) (layout : List Field) where
  pub record ReadsBy (bytes : List ℕ) (m : Message) : Type 0 where
    pub long : size_of layout ≤ length bytes
    pub header : m.header ≡ read_fields layout (take (size_of layout) bytes)
    pub body : ListReads reads sets [] (drop (size_of layout) bytes) m.body

  -- the first fault: a short header, or that of the list
  abbrev pub FaultBy : List ℕ → DecodeError → Type 0
  FaultBy bytes e =
      ((length bytes < size_of layout) × (e ≡ BufferTooSmall (length bytes) (size_of layout)))
      ⊎ ((size_of layout ≤ length bytes) × IsListFault reads sets [] (drop (size_of layout) bytes) e)

  -- the reading as a function
  abbrev pub read_by : List ℕ → Outcome Message
  read_by bytes =
      if nat_lt (length bytes) (size_of layout) then Err (BufferTooSmall (length bytes) (size_of layout)) else
      read_list reads sets [] (drop (size_of layout) bytes) >>= λ body.
      Ok (record { header = read_fields layout (take (size_of layout) bytes); body = body })

-- the same for a table of attributes
module _ (sets : Sets Frame) (layout : List Field) (rows : Rows) where
  abbrev pub ReadsWith : List ℕ → Message → Type 0
  ReadsWith = ReadsBy (table_codec (table rows)).read sets layout

  abbrev pub FaultWith : List ℕ → DecodeError → Type 0
  FaultWith = FaultBy (table_codec (table rows)).read sets layout

  unfoldable pub read_with : List ℕ → Outcome Message
  read_with bytes = read_by (table_codec (table rows)).read sets layout bytes

module _ (layout : List Field) (rows : Rows) where
  -- frames of type 1 set the kind
  abbrev pub ReadsMessage : List ℕ → Message → Type 0
  ReadsMessage = ReadsWith kind_of_frame layout rows

  -- the bytes of a message
  unfoldable pub message_bytes : Message → List ℕ
  message_bytes m = fields_bytes layout m.header ++ list_bytes (table_codec (table rows)).write m.body

  -- each attribute fits, and the length of the message is a `usize`
  pub record FitsMessage (m : Message) : Type 0 where
    pub body : ListFits (table_codec (table rows)).Fits (table_codec (table rows)).write m.body
    pub whole : size_of layout + length (list_bytes (table_codec (table rows)).write m.body) < 2 ^ 64

  -- as in any message of a program: numbers are in the range of their types and texts are UTF-8
  pub record TypedMessage (m : Message) : Type 0 where
    pub header : TypedFields layout m.header
    pub body : AllByRecursion (table_codec (table rows)).Typed m.body

  -- the header is settled, and each attribute under the kind in force at its place
  pub record SettledWith (sets : Sets Attribute) (m : Message) : Type 0 where
    pub header : SettledFields layout m.header
    pub body : SettledEach (table_codec (table rows)).Settled sets [] m.body

  -- the same, stated for each place by itself
  pub record SettledByPlace (sets : Sets Attribute) (m : Message) : Type 0 where
    pub header : SettledFields layout m.header
    pub body : SettledAtEach (table_codec (table rows)).Settled sets [] m.body

-- a message has one reading and no fault, or no reading and one fault
pub record OneReading (reads : Reads Attribute) (sets : Sets Frame) (layout : List Field) (bytes : List ℕ) (outcome : Outcome Message) : Type 0 where
  pub reading : (m : Message) → (outcome ≡ Ok m) ↔ ReadsBy reads sets layout bytes m
  pub fault : (e : DecodeError) → (outcome ≡ Err e) ↔ FaultBy reads sets layout bytes e

abbrev pub OneMessage : Sets Frame → List Field → Rows → List ℕ → Outcome Message → Type 0
OneMessage sets layout rows = OneReading (table_codec (table rows)).read sets layout

-- canonical: the header's bytes with its padding zero, and frames that are canonical in the table
pub record CanonWith (sets : Sets Frame) (layout : List Field) (rows : Rows) (bytes : List ℕ) : Type 0 where
  pub header : CanonFields layout (take (size_of layout) bytes)
  pub body : IsCanonList (CanonTable (table rows)) sets [] (drop (size_of layout) bytes)

-- the codec of a message, whatever frames and values set a kind
abbrev pub message_codec : Sets Frame → Sets Attribute → List Field → Rows → Codec (List ℕ) Message
message_codec by_frame by_value layout rows = record {
  read = λ kind bytes. read_with by_frame layout rows bytes;
  write = message_bytes layout rows;
  Typed = TypedMessage layout rows;
  Fits = FitsMessage layout rows;
  Settled = λ kind m. SettledWith layout rows by_value m;
}

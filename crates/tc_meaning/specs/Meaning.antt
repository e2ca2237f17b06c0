-- The meaning of the tables: each is a codec of frames.
use Rattle.std.specs.Prelude.{◌≡◌, ℕ, ◌+◌, ◌<◌, ◌≤◌, ◌^◌, Bool, true, false, List, [], length, Ok, ◌==◌, if◌then◌else◌, MatchBool}
use Rattle.std.specs.Str.{bytes_eq}
use Rattle.nla_frames.specs.Fault.{Outcome, seen}
use Rattle.nla_frames.specs.Value.{IsBytes}
use Rattle.nla_frames.specs.Frame.{Frame, type_of}
use Rattle.nla_frames.specs.Reading.{keep}
use Rattle.nla_frames.specs.Codec.{Codec, list_codec}
use Rattle.tc_canon.specs.Descriptor.{Class, le, be, masked, array, raw, text, warning, presence, truth, fields, selector, pair, xstats, list_of, own_list}
use Rattle.tc_canon.specs.Descriptor.{Table, table, every, by_kind, Rows, others, types, unread, options, Kinds, unknown, kind, is_within, is_known}
use Rattle.tc_meaning.specs.Tree.{Content, items, Attribute, known, kept, other, of_kind, attributes_of, list_of_attributes, number_of}
use Rattle.tc_meaning.specs.Content.{Shape, via, a_number, le_codec, be_codec, masked_codec, some_bytes, array_codec, raw_codec, text_codec, warning_codec}
use Rattle.tc_meaning.specs.Content.{a_flag, presence_codec, truth_codec, a_record, record_codec, pair_codec, a_selector, selector_codec, xstats_codec}
use Rattle.tc_meaning.specs.Own.{own_codec}

abbrev pub a_list : Shape (List Attribute)
a_list = record { into = λ xs. items (attributes_of xs); out = list_in }
  where
    list_in : Content → List Attribute
    list_in (items xs) = list_of_attributes xs
    list_in _ = []

-- the frame of an attribute that is kept raw, and of any other whose type is in no row
abbrev pub raw_frame : Attribute → Frame
raw_frame (other word value) = record { word = word; value = value }
raw_frame (kept n word value) = record { word = word; value = value }
raw_frame _ = record { word = 0; value = [] }

-- an attribute that is kept raw, in the range of its types
abbrev pub IsRaw : ℕ → List ℕ → Type 0
IsRaw word value = (word < 2 ^ 16) × IsBytes value

abbrev pub IsShort : List ℕ → Type 0
IsShort value = length value ≤ 65531

-- a codec of values that have to be short
abbrev pub short : {X : Type 0} → Codec (List ℕ) X → Codec (List ℕ) X
short c = record {
  read = c.read;
  write = c.write;
  Typed = c.Typed;
  Fits = λ x. c.Fits x × IsShort (c.write x);
  Settled = c.Settled;
}

-- every type is kept raw
abbrev pub raw_frames : Codec Frame Attribute
raw_frames = record {
  read = λ k f. Ok (other f.word f.value);
  write = raw_frame;
  Typed = TypedRaw;
  Fits = λ x. IsShort (raw_frame x).value;
  Settled = λ k x. Unit {0};
}
  where
    TypedRaw : Attribute → Type 0
    TypedRaw (other word value) = IsRaw word value
    TypedRaw _ = ⊥

-- a row: one type with its word and its class; an attribute that is kept raw isn't of this row
abbrev pub row_frames : ℕ → ℕ → Codec (List ℕ) Content → Codec Frame Attribute
row_frames word n c = record {
  read = λ k f. seen (known n) (c.read k f.value);
  write = write_row;
  Typed = TypedRow;
  Fits = FitsRow;
  Settled = SettledRow;
}
  where
    write_row : Attribute → Frame
    write_row (known m content) = record { word = word; value = c.write content }
    write_row x = raw_frame x

    TypedRow : Attribute → Type 0
    TypedRow (known m content) = (m ≡ n) × c.Typed content
    TypedRow (other w value) = IsRaw w value
    TypedRow _ = ⊥

    FitsRow : Attribute → Type 0
    FitsRow (known m content) = c.Fits content × IsShort (c.write content)
    FitsRow x = IsShort (raw_frame x).value

    SettledRow : List ℕ → Attribute → Type 0
    SettledRow k (known m content) = c.Settled k content
    SettledRow k _ = ⊥

-- one of two codecs, selected by a test
abbrev pub choose : {W X : Type 0} → Bool → Codec W X → Codec W X → Codec W X
choose true chosen rest = chosen
choose false chosen rest = rest

-- the codec of each type: frames by the type of their word, values by the type that they have
abbrev pub by_type : (ℕ → Codec Frame Attribute) → Codec Frame Attribute
by_type at = record {
  read = λ k f. (at (type_of f.word)).read k f;
  write = λ x. (at (number_of x)).write x;
  Typed = λ x. (at (number_of x)).Typed x;
  Fits = λ x. (at (number_of x)).Fits x;
  Settled = λ k x. (at (number_of x)).Settled k x;
}

-- a message's options: a list under a known kind, kept raw under any other
abbrev pub options_frames : ℕ → Kinds → Codec (List ℕ) Content → Codec Frame Attribute
options_frames n kinds c = record {
  read = read_options;
  write = row.write;
  Typed = TypedOptions;
  Fits = row.Fits;
  Settled = SettledOptions;
}
  where
    row : Codec Frame Attribute
    row = row_frames n n c

    read_options : List ℕ → Frame → Outcome Attribute
    read_options k f = if is_known kinds k then row.read k f else Ok (kept n f.word f.value)

    TypedOptions : Attribute → Type 0
    TypedOptions (kept m word value) = (m ≡ n) × IsRaw word value
    TypedOptions x = row.Typed x

    SettledOptions : List ℕ → Attribute → Type 0
    SettledOptions k (known m content) = (is_known kinds k ≡ true) × row.Settled k (known m content)
    SettledOptions k (kept m word value) = (is_known kinds k ≡ false) × (type_of word ≡ n)
    SettledOptions k _ = ⊥

-- a type that is written and never read: a frame of it is kept raw
abbrev pub unread_frames : ℕ → Codec (List ℕ) Content → Codec Frame Attribute
unread_frames n c = record {
  read = λ k f. Ok (other f.word f.value);
  write = row.write;
  Typed = row.Typed;
  Fits = row.Fits;
  Settled = SettledUnread;
}
  where
    row : Codec Frame Attribute
    row = row_frames n n c

    SettledUnread : List ℕ → Attribute → Type 0
    SettledUnread k (other word value) = Unit {0}
    SettledUnread k _ = ⊥

-- every type has the same class; the attribute keeps the type that was read, and its word is written whole
abbrev pub every_frame : Codec (List ℕ) Content → Codec Frame Attribute
every_frame c = record {
  read = λ k f. seen (known (type_of f.word)) (c.read k f.value);
  write = write_any;
  Typed = TypedAny;
  Fits = FitsAny;
  Settled = SettledAny;
}
  where
    write_any : Attribute → Frame
    write_any (known word content) = record { word = word; value = c.write content }
    write_any x = raw_frame x

    TypedAny : Attribute → Type 0
    TypedAny (known word content) = (word < 2 ^ 16) × c.Typed content
    TypedAny _ = ⊥

    FitsAny : Attribute → Type 0
    FitsAny (known word content) = c.Fits content × IsShort (c.write content)
    FitsAny _ = ⊥

    SettledAny : List ℕ → Attribute → Type 0
    SettledAny k (known word content) = (word ≤ 0x3FFF) × c.Settled k content
    SettledAny k _ = ⊥

-- the attributes of a kind, before those of other kinds
abbrev pub kind_frames : List ℕ → Codec Frame Attribute → Codec Frame Attribute → Codec Frame Attribute
kind_frames name own rest = record {
  read = λ k f. if bytes_eq k name then seen (of_kind name) (own.read k f) else rest.read k f;
  write = write_kind;
  Typed = TypedKind;
  Fits = FitsKind;
  Settled = SettledKind;
}
  where
    write_kind : Attribute → Frame
    write_kind (of_kind m x) = if bytes_eq m name then own.write x else rest.write (of_kind m x)
    write_kind x = rest.write x

    TypedKind : Attribute → Type 0
    TypedKind (of_kind m x) = MatchBool (bytes_eq m name) (own.Typed x) (rest.Typed (of_kind m x))
    TypedKind x = rest.Typed x

    FitsKind : Attribute → Type 0
    FitsKind (of_kind m x) = MatchBool (bytes_eq m name) (own.Fits x) (rest.Fits (of_kind m x))
    FitsKind x = rest.Fits x

    SettledKind : List ℕ → Attribute → Type 0
    SettledKind k (of_kind m x) = MatchBool (bytes_eq m name) ((bytes_eq k name ≡ true) × own.Settled k x) (rest.Settled k (of_kind m x))
    SettledKind k x = MatchBool (bytes_eq k name) ⊥ (rest.Settled k x)

abbrev mutual
  -- the codec of a class, on the bytes of a value
  pub class_codec : Class → Codec (List ℕ) Content
  class_codec (le n) = via a_number (le_codec n)
  class_codec (be n) = via a_number (be_codec n)
  class_codec (masked n bits) = via a_number (masked_codec n bits)
  class_codec (array n) = via some_bytes (array_codec n)
  class_codec raw = via some_bytes raw_codec
  class_codec text = via some_bytes text_codec
  class_codec warning = via some_bytes warning_codec
  class_codec presence = via a_flag presence_codec
  class_codec truth = via a_flag truth_codec
  class_codec (fields layout) = via a_record (record_codec layout)
  class_codec selector = via a_selector selector_codec
  class_codec pair = via a_record pair_codec
  class_codec xstats = xstats_codec
  class_codec (list_of t) = via a_list (list_codec keep keep (table_codec t))
  class_codec (own_list rows) = via a_list (own_codec (by_type (rows_codec rows)))

  -- the codec of a table
  pub table_codec : Table → Codec Frame Attribute
  table_codec (table rows) = by_type (rows_codec rows)
  table_codec (every class) = every_frame (class_codec class)
  table_codec (by_kind kinds) = kinds_codec kinds

  -- the codec of a table's rows at a type
  pub rows_codec : Rows → ℕ → Codec Frame Attribute
  rows_codec others n = raw_frames
  rows_codec (types first last flags class rows) n = choose (is_within first last n) (row_frames (flags + n) n (class_codec class)) (rows_codec rows n)
  rows_codec (unread m class rows) n = choose (n == m) (unread_frames m (class_codec class)) (rows_codec rows n)
  rows_codec (options m kinds rows) n = choose (n == m) (options_frames m kinds (via a_list (list_codec keep keep (kinds_codec kinds)))) (rows_codec rows n)

  -- the codec of an option under the kinds
  pub kinds_codec : Kinds → Codec Frame Attribute
  kinds_codec unknown = raw_frames
  kinds_codec (kind name rows kinds) = kind_frames name (by_type (rows_codec rows)) (kinds_codec kinds)

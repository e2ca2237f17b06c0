-- The reading of an attribute whose value is a list, as the grammar of lists says. `tables` in src/laws.rt proves that
-- the codecs of the tables read exactly this.
use Rattle.std.specs.Prelude.{◌≡◌, ℕ, List, Ok, Err, ◌↔◌, MatchBool}
use Rattle.nla_frames.specs.declared.error.DecodeError.{DecodeError}
use Rattle.nla_frames.specs.Fault.{Outcome, seen}
use Rattle.nla_frames.specs.Frame.{Frame, type_of}
use Rattle.nla_frames.specs.Reading.{keep}
use Rattle.nla_frames.specs.ListGrammar.{ListReads, IsListFault}
use Rattle.tc_canon.specs.Descriptor.{Table, table, by_kind, Rows, options, Kinds, list_of, own_list, is_known}
use Rattle.tc_meaning.specs.Tree.{Content, items, Attribute, known, kept, attributes_of}
use Rattle.tc_meaning.specs.OwnGrammar.{OwnReads, OwnFault}
use Rattle.tc_meaning.specs.Meaning.{class_codec, table_codec}

-- the content is a list whose attributes satisfy `Reads`
abbrev pub Holds : (List Attribute → Type 0) → Content → Type 0
Holds Reads content = (xs : List Attribute) × (content ≡ items (attributes_of xs)) × Reads xs

-- the outcome is a content if and only if that is a list that reads so, and a fault if and only if it is this one
pub record IsListOutcome (Reads : List Attribute → Type 0) (Fault : DecodeError → Type 0) (outcome : Outcome Content) : Type 0 where
  pub reading : (content : Content) → (outcome ≡ Ok content) ↔ Holds Reads content
  pub fault : (e : DecodeError) → (outcome ≡ Err e) ↔ Fault e

-- a list of a table: the bytes are frames, and each is read in the table, all under the kind around the list; or the
-- first fault, of a broken frame or of one that is refused
abbrev pub ReadsNested : Table → List ℕ → List ℕ → Type 0
ReadsNested t kind bytes =
    IsListOutcome
    (ListReads (table_codec t).read keep kind bytes)
    (IsListFault (table_codec t).read keep kind bytes)
    ((class_codec (list_of t)).read kind bytes)

-- a list that sets its own kind: every frame of type 1 has a text, there is one such frame, and each frame is read
-- with the rows under its text; or the first fault: a broken frame, a frame of type 1 without a text, no kind, several
-- kinds, or a frame that is refused. The kind around the list doesn't matter
abbrev pub ReadsOwn : Rows → List ℕ → List ℕ → Type 0
ReadsOwn rows kind bytes =
    IsListOutcome
    (OwnReads (table_codec (table rows)).read bytes)
    (OwnFault (table_codec (table rows)).read bytes)
    ((class_codec (own_list rows)).read kind bytes)

-- a message's options, in a row of the frame's own type: a list of the kind's table under a known kind, kept raw under
-- any other
abbrev pub ReadsOptions : Kinds → Rows → List ℕ → Frame → Type 0
ReadsOptions kinds rows kind f =
    let n = type_of f.word in
    let outcome = (table_codec (table (options n kinds rows))).read kind f in
    let list = (class_codec (list_of (by_kind kinds))).read kind f.value in
    MatchBool (is_known kinds kind) (outcome ≡ seen (known n) list) (outcome ≡ Ok (kept n f.word f.value))

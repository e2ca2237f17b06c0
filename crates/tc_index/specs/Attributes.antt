-- All attributes of a message, each before those nested in it.
use Rattle.std.specs.Prelude.{ℕ, zero, suc, ◌+◌, List, [], ◌∷◌, ◌++◌, length, drop, Option, Some, None, Result, Ok, Err, nat_lt, if◌then◌else◌}
use Rattle.nla_frames.specs.declared.error.DecodeError.TheVariants.{BufferTooSmall}
use Rattle.nla_frames.specs.Fault.{Outcome}
use Rattle.nla_frames.specs.Frame.{Frame, type_of, frame_length}
use Rattle.nla_frames.specs.Cutting.{cut, items_of}
use Rattle.nla_frames.specs.Place.{Sets, kind_then}
use Rattle.nla_frames.specs.Reading.{keep}
use Rattle.tc_canon.specs.Descriptor.{Table, table}
use Rattle.tc_canon.specs.Kind.{kind_of_frame}
use Rattle.tc_canon.specs.Tables.Messages.{attributes, action_message_attributes}
use Rattle.tc_index.specs.declared.attribute.BrokenFrame.{BrokenFrame}
use Rattle.tc_index.specs.Nesting.{class_in, list_in}

-- a frame of a message with the offset of its value, the table of its type, the kind at this place, and its depth: the
-- number of attributes that it is nested in
pub record Placed : Type 0 where
  pub frame : Frame
  pub offset : ℕ
  pub table : Table
  pub kind : List ℕ
  pub depth : ℕ

-- an attribute, or a malformed frame
abbrev pub Item : Type 0
Item = Result Placed BrokenFrame

-- the items of a frame, given the kind and the offset of its value
abbrev pub Yields : Type 0
Yields = List ℕ → ℕ → Frame → List Item

-- the items of the frames of a list that begins at an offset
abbrev pub each : Yields → Sets Frame → List ℕ → ℕ → List (Outcome Frame) → List Item
each yields sets k at [] = []
each yields sets k at (Ok f ∷ frames) = yields k (at + 4) f ++ each yields sets (kind_then sets k f) (at + frame_length f) frames
each yields sets k at (Err e ∷ frames) = Err (record { offset = at; fault = e }) ∷ []

-- the items of a list, given its table, the kind, its depth, its offset and its bytes
abbrev pub Walk : Type 0
Walk = Table → List ℕ → ℕ → ℕ → List ℕ → List Item

abbrev pub within : Walk → Option (Table × List ℕ) → ℕ → ℕ → List ℕ → List Item
within walk None depth at bytes = []
within walk (Some list) depth at bytes = walk list.0 list.1 depth at bytes

-- an attribute, then those nested in it
abbrev pub with_inner : Walk → Table → ℕ → Yields
with_inner walk t depth k at f =
    Ok (record { frame = f; offset = at; table = t; kind = k; depth = depth })
    ∷ within walk (list_in (class_in t (type_of f.word) k) k f.value) (suc depth) at f.value

-- the attributes of a list and those nested in them, at most n lists deep
unfoldable pub attributes_in : ℕ → Walk
attributes_in zero t k depth at bytes = []
attributes_in (suc n) t k depth at bytes = each (with_inner (attributes_in n) t depth) keep k at (items_of (cut bytes))

-- the items up to and including the first malformed frame
abbrev pub to_fault : List Item → List Item
to_fault [] = []
to_fault (Ok a ∷ items) = Ok a ∷ to_fault items
to_fault (Err broken ∷ items) = Err broken ∷ []

-- the attributes of a message after its header and those nested in them, at most `deepest` lists deep
abbrev pub message_items : ℕ → ℕ → Table → Sets Frame → List ℕ → List Item
message_items deepest header t sets bytes = to_fault (each (with_inner (attributes_in deepest) t 0) sets [] header (items_of (cut (drop header bytes))))

-- a traffic control message: a frame of type 1 sets the kind for the frames after it
unfoldable pub tc_items : List ℕ → List Item
tc_items bytes = message_items 4 20 (table attributes) kind_of_frame bytes

-- an action message
unfoldable pub action_items : List ℕ → List Item
action_items bytes = message_items 4 4 (table action_message_attributes) keep bytes

-- the items of a message with a header of n bytes; `BufferTooSmall` if it is shorter
abbrev pub after_header : ℕ → (List ℕ → List Item) → List ℕ → Outcome (List Item)
after_header n items bytes = if nat_lt (length bytes) n then Err (BufferTooSmall (length bytes) n) else Ok (items bytes)

-- The first fault of a message, and its offset, in the order of parsing: each attribute before those nested in it.
use Rattle.std.specs.Prelude.{ℕ, ◌+◌, ◌==◌, ◌&&◌, not, Bool, List, [], ◌∷◌, Option, Some, None, Ok, Err, is_some, if◌then◌else◌}
use Rattle.std.specs.Str.{is_utf8}
use Rattle.nla_frames.specs.declared.error.DecodeError.{DecodeError}
use Rattle.nla_frames.specs.Fault.{Outcome}
use Rattle.nla_frames.specs.Frame.{Frame, type_of, frame_length}
use Rattle.nla_frames.specs.Value.{strip}
use Rattle.nla_frames.specs.Cutting.{cut, items_of}
use Rattle.tc_canon.specs.Descriptor.{Class, own_list}
use Rattle.tc_index.specs.Nesting.{class_in}
use Rattle.tc_index.specs.Attributes.{Placed, Item, tc_items, action_items, after_header}
use Rattle.tc_faults.specs.declared.what.What.{What}
use Rattle.tc_faults.specs.declared.what.What.TheVariants.{Action}
use Rattle.tc_faults.specs.Fault.{value_fault}

-- the fault of an attribute's own value
abbrev pub own_fault : Placed → Option DecodeError
own_fault p = value_fault (class_in p.table (type_of p.frame.word) p.kind) p.kind p.frame.value

-- the first of two, if there is one
abbrev pub or_else : Option DecodeError → Option DecodeError → Option DecodeError
or_else None later = later
or_else (Some e) later = Some e

-- the first fault of attributes
abbrev pub first_fault : List Item → Option DecodeError
first_fault [] = None
first_fault (Ok p ∷ items) = or_else (own_fault p) (first_fault items)
first_fault (Err broken ∷ items) = Some broken.fault

-- the attributes of a message, after its header
abbrev pub items_of_message : What → List ℕ → Outcome (List Item)
items_of_message Action bytes = after_header 4 action_items bytes
items_of_message what bytes = after_header 20 tc_items bytes

-- the first fault of a message: a short header, or the first fault of its attributes
abbrev pub message_fault : Outcome (List Item) → Option DecodeError
message_fault (Ok items) = first_fault items
message_fault (Err e) = Some e

-- ---- its offset

-- a frame of an action with a kind that isn't UTF-8
abbrev pub is_wrong_kind : Frame → Bool
is_wrong_kind f = (type_of f.word == 1) && not (is_utf8 (strip f.value))

-- the offset of the fault of an action, whose frames from here on begin at an offset: of the first frame that is malformed, or the value of a kind that isn't
-- UTF-8; if there is none, it has no kind or several, and the fault is at its own value
abbrev pub offset_in_frames : ℕ → ℕ → List (Outcome Frame) → ℕ
offset_in_frames action at [] = action
offset_in_frames action at (Err e ∷ frames) = at
offset_in_frames action at (Ok f ∷ frames) = if is_wrong_kind f then at + 4 else offset_in_frames action (at + frame_length f) frames

-- the offset of the fault of a value of this class at an offset: the value's, except for an action
abbrev pub offset_in : Class → ℕ → List ℕ → ℕ
offset_in (own_list rows) at value = offset_in_frames at at (items_of (cut value))
offset_in class at value = at

abbrev pub own_offset : Placed → ℕ
own_offset p = offset_in (class_in p.table (type_of p.frame.word) p.kind) p.offset p.frame.value

-- the offset of the first fault of attributes: of a malformed frame its own
abbrev pub first_offset : List Item → Option ℕ
first_offset [] = None
first_offset (Ok p ∷ items) = if is_some (own_fault p) then Some (own_offset p) else first_offset items
first_offset (Err broken ∷ items) = Some broken.offset

-- the offset of the first fault of a message: 0 for a short header
abbrev pub message_offset : Outcome (List Item) → Option ℕ
message_offset (Ok items) = first_offset items
message_offset (Err e) = Some 0

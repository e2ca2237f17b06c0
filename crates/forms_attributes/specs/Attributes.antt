-- Lists of attributes: the JSON of each.
use Rattle.std.specs.Prelude.{Bool, List, None, Option, Some, [], codes, if◌then◌else◌, length, suc, true, unwrap_or, zero, ℕ, ◌==◌}
use Rattle.nla_frames.specs.Frame.{padding}
use Rattle.nla_frames.specs.Value.{ends_in_nul}
use Rattle.serde_json.specs.Data.{Data, Items, Members, boolean, item, member, no_items, no_members, number, object, string, unsigned}
use Rattle.forms_attributes.specs.Frames.{PaddedFrame, after_first, front}
use Rattle.forms_attributes.specs.Kinds.{kind_in}
use Rattle.forms_values.specs.Raw.{hex, one, raw}
use Rattle.forms_values.specs.Records.{is_blank}
use Rattle.forms_attributes.specs.Rows.{shown_row}
use Rattle.forms_values.specs.Search.{held}
use Rattle.forms_values.specs.Tables.{Row}
use Rattle.forms_values.specs.declared.form.Form.{Form}

-- bytes after the last frame are raw
abbrev pub tail_shown : List ℕ → Items
tail_shown [] = no_items
tail_shown b = item (raw b) no_items

-- an nla_type that isn't the row's, and padding that isn't zeros, are members
abbrev pub pad_member : PaddedFrame → Members
pad_member c = if is_blank (Some (padding (length c.value))) c.pad then no_members else member (codes "pad") (hex c.pad) no_members

abbrev pub beside : ℕ → PaddedFrame → Members
beside word c = if c.word == word then pad_member c else member (codes "word") (number (unsigned c.word)) (pad_member c)

abbrev pub word_and_hex : PaddedFrame → Data
word_and_hex c = object (member (codes "word") (number (unsigned c.word)) (member (codes "value") (hex c.value) no_members))

abbrev pub other : PaddedFrame → Data
other c = object (member (codes "Other") (word_and_hex c) (pad_member c))

-- a kind without a NUL at its end is bare
abbrev pub bare_member : List ℕ → Members → Members
bare_member value after = if ends_in_nul value then after else member (codes "bare") (boolean true) after

abbrev pub kind_shown : PaddedFrame → List ℕ → Data
kind_shown c t = object (member (codes "Kind") (string t) (bare_member c.value (beside 1 c)))

abbrev pub indexed : PaddedFrame → Data → Data
indexed c held = object (member (codes "tab") (number (unsigned c.word)) (member (codes "attributes") held (pad_member c)))

-- in an object with one member, if the layer has a name
abbrev pub layered : List ℕ → Data → Data
layered [] d = d
layered name d = one name d

-- frames, each shown by `One` under the kind so far
module _ (One : List ℕ → PaddedFrame → Data) (has : Bool) where
  abbrev pub first_or_tail : List ℕ → List ℕ → (List ℕ → Items) → Option PaddedFrame → Items
  first_or_tail kind b later None = tail_shown b
  first_or_tail kind b later (Some c) = item (One (unwrap_or (kind_in has c) kind) c) (later (unwrap_or (kind_in has c) kind))

  abbrev pub frames : ℕ → List ℕ → List ℕ → Items
  frames zero kind b = tail_shown b
  frames (suc n) kind b = first_or_tail kind b (λ k. frames n k (after_first b)) (front b)

module _ (Inner : List ℕ → Form → List ℕ → Data) (rows : List Row) (has : Bool) where
  abbrev pub by_row : List ℕ → PaddedFrame → Option Row → Data
  by_row kind c None = other c
  by_row kind c (Some r) = object (member r.name (Inner kind r.form c.value) (beside r.word c))

  abbrev pub by_kind : List ℕ → PaddedFrame → Option (List ℕ) → Data
  by_kind kind c (Some t) = kind_shown c t
  by_kind kind c None = by_row kind c (shown_row rows c.word)

  -- an attribute
  abbrev pub attribute : List ℕ → PaddedFrame → Data
  attribute kind c = by_kind kind c (kind_in has c)

  -- an attribute in its layer, or in an indexed list one that holds this form
  abbrev pub listed : Option Form → List ℕ → List ℕ → PaddedFrame → Data
  listed None layer kind c = layered layer (attribute kind c)
  listed (Some f) layer kind c = indexed c (Inner kind f c.value)

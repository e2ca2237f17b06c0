-- The abstract values of an attribute, and of an iterator over attributes.
use Rattle.std.specs.Prelude.{◌≡◌, ℕ, suc, ◌-◌, List, [], ◌∷◌, ◌++◌, length, take, Bool, Option, Some, None, Ok, Err, Result, if◌then◌else◌}
use Rattle.std.specs.Borrow.{Bor}
use Rattle.nla_frames.specs.Frame.{Frame, type_of}
use Rattle.nla_frames.specs.Cutting.{cut, items_of}
use Rattle.nla_frames.specs.Place.{Sets}
use Rattle.tc_canon.specs.Descriptor.{Table}
use Rattle.tc_canon.specs.Kind.{kind_of_frame}
use Rattle.tc_index.specs.declared.table.Table.{Table as ListedTable}
use Rattle.tc_index.specs.Tables.{table_of}
use Rattle.tc_index.specs.declared.attribute.Attribute.{Attribute}
use Rattle.tc_index.specs.declared.attribute.Node.{Node}
use Rattle.tc_index.specs.declared.attribute.BrokenFrame.{BrokenFrame}
use Rattle.tc_index.specs.declared.level.Level.{Level}
use Rattle.tc_index.specs.declared.attributes.Attributes.{Attributes}
use Rattle.tc_index.specs.Nesting.{class_in, list_in}
use Rattle.tc_index.specs.Attributes.{Placed, Item, each, within, with_inner, attributes_in, to_fault}

-- ---- an attribute

abbrev pub placed_of : Attribute → Placed
placed_of a = record {
  frame = record { word = a.word; value = a.value.now };
  offset = a.offset;
  table = table_of a.table;
  kind = a.kind.now;
  depth = a.depth;
}

abbrev pub item_of : Result Attribute BrokenFrame → Item
item_of (Ok a) = Ok (placed_of a)
item_of (Err broken) = Err broken

-- an attribute as C sees it: offset and length instead of the value
pub record NodeView : Type 0 where
  pub offset : ℕ
  pub len : ℕ
  pub word : ℕ
  pub table : Table
  pub depth : ℕ

abbrev pub node_of : Placed → NodeView
node_of p = record { offset = p.offset; len = length p.frame.value; word = p.frame.word; table = p.table; depth = p.depth }

abbrev pub node_view : Node → NodeView
node_view n = record { offset = n.offset; len = n.len; word = n.word; table = table_of n.table; depth = n.depth }

-- the abstract value of `list_in`'s result
abbrev pub list_found : Option (ListedTable × Bor (List ℕ)) → Option (Table × List ℕ)
list_found None = None
list_found (Some list) = Some (table_of list.0, list.1.now)

-- ---- an iterator

-- whether frames of type 1 set the kind
abbrev pub sets_if : Bool → Sets Frame
sets_if sets f = if sets then kind_of_frame f else None

-- the items left in a list at this depth
abbrev pub left_in : ℕ → Level → List Item
left_in depth l = each (with_inner (attributes_in (4 - depth)) (table_of l.table) depth) (sets_if l.sets_kind) l.kind.now l.offset (items_of (cut l.rest.now))

-- none if there is no list
abbrev pub left_in_some : ℕ → Option Level → List Item
left_in_some depth None = []
left_in_some depth (Some l) = left_in depth l

-- the items left in nested lists, innermost first; each list is in the one before it
abbrev pub levels_left : ℕ → List Level → List Item
levels_left depth [] = []
levels_left depth (l ∷ ls) = levels_left (suc depth) ls ++ left_in depth l

-- the stored lists, outermost first; as many of them enclose the current list as it is deep
abbrev pub outer_of : Attributes → List Level
outer_of it = it.first ∷ it.second ∷ it.third ∷ it.fourth ∷ []

-- the items left in the current list and those enclosing it
abbrev pub lists_left : Attributes → List Item
lists_left it = left_in it.depth it.level ++ levels_left 0 (take it.depth (outer_of it))

-- the items that an iterator has left
abbrev pub items_left : Attributes → List Item
items_left it = to_fault (lists_left it)

-- ---- steps

-- the items nested in an attribute at this depth
abbrev pub inner_of : ℕ → Placed → List Item
inner_of depth p =
    within (attributes_in (4 - depth)) (list_in (class_in p.table (type_of p.frame.word) p.kind) p.kind p.frame.value) (suc depth) p.offset p.frame.value

-- the first item of a list, with those nested in it, and the list after it
abbrev pub YieldsFirst : ℕ → Level → Level → Result Attribute BrokenFrame → Type 0
YieldsFirst depth old new (Ok a) = left_in depth old ≡ (Ok (placed_of a) ∷ inner_of depth (placed_of a)) ++ left_in depth new
YieldsFirst depth old new (Err broken) = left_in depth old ≡ Err broken ∷ []

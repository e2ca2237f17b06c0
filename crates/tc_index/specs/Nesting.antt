-- Which attributes nest others, and with which table, given the kind.
use Rattle.std.specs.Prelude.{ℕ, ◌==◌, List, [], ◌∷◌, Option, Some, None, Ok, Err, unwrap_or, option_map, if◌then◌else◌}
use Rattle.std.specs.Str.{bytes_eq}
use Rattle.nla_frames.specs.Fault.{Outcome}
use Rattle.nla_frames.specs.Frame.{Frame}
use Rattle.nla_frames.specs.Cutting.{cut, items_of}
use Rattle.tc_canon.specs.Descriptor.{Class, raw, list_of, own_list, Table, table, every, by_kind, Rows, others, types, unread, options}
use Rattle.tc_canon.specs.Descriptor.{Kinds, unknown, kind, is_within, is_known}
use Rattle.tc_canon.specs.Kind.{kind_of_frame}

-- the class of a type: that of the first row with the type; raw if there is none, or if the row is never read
abbrev pub class_at : Rows → ℕ → List ℕ → Class
class_at others n k = raw
class_at (types first last flags class rows) n k = if is_within first last n then class else class_at rows n k
class_at (unread m class rows) n k = if n == m then raw else class_at rows n k
class_at (options m kinds rows) n k = if n == m then (if is_known kinds k then list_of (by_kind kinds) else raw) else class_at rows n k

-- the class of an attribute in a table; raw under an unknown kind
abbrev pub class_in : Table → ℕ → List ℕ → Class
class_in (table rows) n k = class_at rows n k
class_in (every class) n k = class
class_in (by_kind kinds) n k = raw

-- the table of a known kind
abbrev pub known_table : Kinds → List ℕ → Option Table
known_table unknown k = None
known_table (kind name rows kinds) k = if bytes_eq k name then Some (table rows) else known_table kinds k

-- a table by kind is the table of the kind, if that is known
abbrev pub table_under : Table → List ℕ → Table
table_under (by_kind kinds) k = unwrap_or (known_table kinds k) (by_kind kinds)
table_under t k = t

-- the kind in the first frame of type 1, before any malformed frame
abbrev pub first_kind : List (Outcome Frame) → List ℕ
first_kind [] = []
first_kind (Ok f ∷ items) = unwrap_or (kind_of_frame f) (first_kind items)
first_kind (Err e ∷ items) = []

-- the table of the attributes in a value, if it is a list
abbrev pub inner_table : Class → List ℕ → Option Table
inner_table (list_of t) k = Some (table_under t k)
inner_table (own_list rows) k = Some (table rows)
inner_table _ k = None

-- the kind in that list: in an action its own
abbrev pub inner_kind : Class → List ℕ → List ℕ → List ℕ
inner_kind (own_list rows) k value = first_kind (items_of (cut value))
inner_kind _ k value = k

-- table and kind of the list in a value
abbrev pub list_in : Class → List ℕ → List ℕ → Option (Table × List ℕ)
list_in class k value = option_map (λ t. (t, inner_kind class k value)) (inner_table class k)

-- The language of the tables: the class of a frame's value, according to the frame's type and the kind in force.
use Rattle.std.specs.Prelude.{ℕ, Bool, true, false, List, ◌&&◌, nat_le, if◌then◌else◌}
use Rattle.std.specs.Str.{bytes_eq}

-- a field of a fixed record; its place is the sum of the widths before it
pub data Field : Type 0 where
  -- a number of n bytes, little-endian, and big-endian
  little : ℕ → Field
  big : ℕ → Field
  -- a little-endian number; these values have names
  named : ℕ → List ℕ → Field
  -- n bytes
  octets : ℕ → Field
  -- n bytes of padding
  pad : ℕ → Field

mutual
  -- the class of a value
  pub data Class : Type 0 where
    -- a number of n bytes, little-endian, and big-endian
    le : ℕ → Class
    be : ℕ → Class
    -- a little-endian number of n bytes; only its lowest bits are written
    masked : ℕ → ℕ → Class
    -- exactly n bytes, and any bytes
    array : ℕ → Class
    raw : Class
    -- a text, written with one NUL, and one written without
    text : Class
    warning : Class
    -- true whatever the value is; written without a value
    presence : Class
    -- one byte, 0 or not, written as 0 or 1
    truth : Class
    -- a fixed record
    fields : List Field → Class
    -- the selector of u32: a head with the number of keys, and the keys
    selector : Class
    -- two words of flags
    pair : Class
    -- statistics, according to the kind in force
    xstats : Class
    -- frames, each read with a table under the kind in force
    list_of : Table → Class
    -- frames, each read with these rows under the kind that they set themselves
    own_list : Rows → Class

  -- a table of frames
  pub data Table : Type 0 where
    -- according to the type
    table : Rows → Table
    -- the same class for every type, which becomes part of the value
    every : Class → Table
    -- according to the kind in force
    by_kind : Kinds → Table

  -- the rows of a table; the first that has the type counts
  pub data Rows : Type 0 where
    -- every other type is kept raw
    others : Rows
    -- the types from one to another, the flags of their written words, and their class
    types : ℕ → ℕ → ℕ → Class → Rows → Rows
    -- a type that is written and never read
    unread : ℕ → Class → Rows → Rows
    -- a message's options: a list under a known kind, kept raw under any other
    options : ℕ → Kinds → Rows → Rows

  -- the known kinds
  pub data Kinds : Type 0 where
    unknown : Kinds
    kind : List ℕ → Rows → Kinds → Kinds

-- the type is one of these
abbrev pub is_within : ℕ → ℕ → ℕ → Bool
is_within first last n = nat_le first n && nat_le n last

-- the kind has a table
abbrev pub is_known : Kinds → List ℕ → Bool
is_known unknown k = false
is_known (kind name rows kinds) k = if bytes_eq k name then true else is_known kinds k

infixr 30 ◌▹◌
-- rows, one after the other
abbrev pub ◌▹◌ : (Rows → Rows) → Rows → Rows
row ▹ rows = row rows

-- one type, written without flags
abbrev pub at : ℕ → Class → Rows → Rows
at n class rows = types n n 0 class rows

-- a run of types, each written without flags
abbrev pub from : ℕ → ℕ → Class → Rows → Rows
from first last class rows = types first last 0 class rows

-- one type, written with the nested flag
abbrev pub nested : ℕ → Class → Rows → Rows
nested n class rows = types n n 0x8000 class rows

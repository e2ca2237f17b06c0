-- Abstract values: the content of a message, without its place in memory.
use Rattle.std.specs.Prelude.{ℕ, Bool, List, [], ◌∷◌}
use Rattle.nla_frames.specs.Frame.{type_of}

-- a field of a record
pub data Scalar : Type 0 where
  -- a number; if numbers of the field have names, one with a name
  plain : ℕ → Scalar
  -- a number without a name: `Other`
  unnamed : ℕ → Scalar
  -- bytes, such as an address
  octets_of : List ℕ → Scalar
  -- padding
  blank : Scalar

mutual
  -- the content of an attribute
  pub data Content : Type 0 where
    number : ℕ → Content
    is_bytes : List ℕ → Content
    flag : Bool → Content
    record_of : List Scalar → Content
    -- a selector's head and its keys
    keyed : List Scalar → List (List Scalar) → Content
    -- statistics of fq_codel with the number of their record, and those with another number
    statistics : ℕ → List Scalar → Content
    unknown_statistics : List ℕ → Content
    items : Attributes → Content

  pub data Attribute : Type 0 where
    -- a type of the table
    known : ℕ → Content → Attribute
    -- a type of the table, kept raw: its word and its value
    kept : ℕ → ℕ → List ℕ → Attribute
    -- kept raw: its word and its value
    other : ℕ → List ℕ → Attribute
    -- an attribute under a kind
    of_kind : List ℕ → Attribute → Attribute

  -- a list of attributes
  pub data Attributes : Type 0 where
    none : Attributes
    and : Attribute → Attributes → Attributes

-- the attributes of a list
abbrev pub attributes_of : List Attribute → Attributes
attributes_of [] = none
attributes_of (x ∷ xs) = and x (attributes_of xs)

abbrev pub list_of_attributes : Attributes → List Attribute
list_of_attributes none = []
list_of_attributes (and x xs) = x ∷ list_of_attributes xs

-- the type that an attribute has in its table
abbrev pub number_of : Attribute → ℕ
number_of (known n content) = n
number_of (kept n word value) = n
number_of (other word value) = type_of word
number_of (of_kind name x) = number_of x

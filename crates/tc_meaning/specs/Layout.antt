-- Fixed records, as defined by their layout.
use Rattle.std.specs.Prelude.{◌≡◌, ℕ, ◌^◌, ◌<◌, Bool, true, false, List, [], ◌∷◌, ◌++◌, length, take, drop, replicate, ◌==◌, if◌then◌else◌}
use Rattle.std.specs.List.{list_any}
use Rattle.nla_frames.specs.Value.{IsBytes, le_bytes, le_value, be_bytes, be_value}
use Rattle.tc_canon.specs.Descriptor.{Field, little, big, named, octets, pad}
pub use Rattle.tc_canon.specs.Layouts.{width, size_of}
use Rattle.tc_meaning.specs.Tree.{Scalar, plain, unnamed, octets_of, blank}

-- the value of a field, from its bytes
abbrev pub read_field : Field → List ℕ → Scalar
read_field (little n) bytes = plain (le_value bytes)
read_field (big n) bytes = plain (be_value bytes)
read_field (named n names) bytes = if list_any (λ name. name == le_value bytes) names then plain (le_value bytes) else unnamed (le_value bytes)
read_field (octets n) bytes = octets_of bytes
read_field (pad n) bytes = blank

-- the fields of a record, from bytes that are long enough
abbrev pub read_fields : List Field → List ℕ → List Scalar
read_fields [] bytes = []
read_fields (f ∷ fs) bytes = read_field f (take (width f) bytes) ∷ read_fields fs (drop (width f) bytes)

-- the bytes of a field, from its value
abbrev pub field_bytes : Field → Scalar → List ℕ
field_bytes (little n) (plain x) = le_bytes n x
field_bytes (big n) (plain x) = be_bytes n x
field_bytes (named n names) (plain x) = le_bytes n x
field_bytes (named n names) (unnamed x) = le_bytes n x
field_bytes (octets n) (octets_of bytes) = bytes
field_bytes f x = replicate (width f) 0

-- the bytes of a record, its padding zero
abbrev pub fields_bytes : List Field → List Scalar → List ℕ
fields_bytes [] xs = []
fields_bytes (f ∷ fs) [] = replicate (width f) 0 ++ fields_bytes fs []
fields_bytes (f ∷ fs) (x ∷ xs) = field_bytes f x ++ fields_bytes fs xs

-- the number is one of these, which have names
abbrev pub has_name : List ℕ → ℕ → Bool
has_name names x = list_any (λ name. name == x) names

-- the value is one that this field of a record can have: a number of its width, a name or `Other`
abbrev pub TypedField : Field → Scalar → Type 0
TypedField (little n) (plain x) = x < 256 ^ n
TypedField (big n) (plain x) = x < 256 ^ n
TypedField (named n names) (plain x) = (x < 256 ^ n) × (has_name names x ≡ true)
TypedField (named n names) (unnamed x) = x < 256 ^ n
TypedField (octets n) (octets_of bytes) = (length bytes ≡ n) × IsBytes bytes
TypedField (pad n) blank = Unit {0}
TypedField f x = ⊥

abbrev pub TypedFields : List Field → List Scalar → Type 0
TypedFields [] [] = Unit {0}
TypedFields (f ∷ fs) (x ∷ xs) = TypedField f x × TypedFields fs xs
TypedFields fs xs = ⊥

-- the value reads back as itself: it isn't an `Other` with a number that has a name
abbrev pub SettledField : Field → Scalar → Type 0
SettledField (named n names) (unnamed x) = has_name names x ≡ false
SettledField f x = Unit {0}

abbrev pub SettledFields : List Field → List Scalar → Type 0
SettledFields [] xs = Unit {0}
SettledFields (f ∷ fs) [] = Unit {0}
SettledFields (f ∷ fs) (x ∷ xs) = SettledField f x × SettledFields fs xs

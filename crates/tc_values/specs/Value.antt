-- The abstract values of plain values: class, content and bytes.
use Rattle.std.specs.Prelude.{◌≡◌, ℕ, ◌<◌, ◌≤◌, ◌^◌, ◌%◌, Bool, true, false, List, [], ◌∷◌, length, if◌then◌else◌}
use Rattle.nla_frames.specs.Value.{IsBytes, IsText, le_bytes, be_bytes, strip, terminated}
use Rattle.tc_canon.specs.Descriptor.{Class, le, be, masked, array, raw, text, warning, presence, truth}
use Rattle.tc_meaning.specs.Tree.{Content, number, is_bytes, flag}
use Rattle.tc_values.specs.Inner.{Inner}
use Rattle.tc_values.specs.declared.value.Value.{Value}
use Rattle.tc_values.specs.declared.value.Value.TheVariants.{Presence, Truth, U8, U16, U32, U16Be, U32Be, Bits1, Bits3, Bits20, Octets4, Octets6, Octets8}
use Rattle.tc_values.specs.declared.value.Value.TheVariants.{Octets16, Bytes, Text, Warning, Kept, Nested}

-- the class of a value that isn't kept raw
abbrev pub value_class : {N : Type 0} → Inner N → Value N → Class
value_class inner (Presence b) = presence
value_class inner (Truth b) = truth
value_class inner (U8 n) = le 1
value_class inner (U16 n) = le 2
value_class inner (U32 n) = le 4
value_class inner (U16Be n) = be 2
value_class inner (U32Be n) = be 4
value_class inner (Bits1 n) = masked 1 1
value_class inner (Bits3 n) = masked 1 3
value_class inner (Bits20 n) = masked 4 20
value_class inner (Octets4 v) = array 4
value_class inner (Octets6 v) = array 6
value_class inner (Octets8 v) = array 8
value_class inner (Octets16 v) = array 16
value_class inner (Bytes v) = raw
value_class inner (Text t) = text
value_class inner (Warning t) = warning
value_class inner (Kept v) = raw
value_class inner (Nested n) = inner.class n

abbrev pub value_content : {N : Type 0} → Inner N → Value N → Content
value_content inner (Presence b) = flag b
value_content inner (Truth b) = flag b
value_content inner (U8 n) = number n
value_content inner (U16 n) = number n
value_content inner (U32 n) = number n
value_content inner (U16Be n) = number n
value_content inner (U32Be n) = number n
value_content inner (Bits1 n) = number n
value_content inner (Bits3 n) = number n
value_content inner (Bits20 n) = number n
value_content inner (Octets4 v) = is_bytes v
value_content inner (Octets6 v) = is_bytes v
value_content inner (Octets8 v) = is_bytes v
value_content inner (Octets16 v) = is_bytes v
value_content inner (Bytes v) = is_bytes v.now
value_content inner (Text t) = is_bytes t.now
value_content inner (Warning t) = is_bytes t.now
value_content inner (Kept v) = is_bytes v.now
value_content inner (Nested n) = inner.content n

-- the bytes of a value
abbrev pub value_bytes : {N : Type 0} → (N → List ℕ) → Value N → List ℕ
value_bytes nested (Presence b) = []
value_bytes nested (Truth b) = (if b then 1 else 0) ∷ []
value_bytes nested (U8 n) = le_bytes 1 n
value_bytes nested (U16 n) = le_bytes 2 n
value_bytes nested (U32 n) = le_bytes 4 n
value_bytes nested (U16Be n) = be_bytes 2 n
value_bytes nested (U32Be n) = be_bytes 4 n
value_bytes nested (Bits1 n) = le_bytes 1 (n % 2 ^ 1)
value_bytes nested (Bits3 n) = le_bytes 1 (n % 2 ^ 3)
value_bytes nested (Bits20 n) = le_bytes 4 (n % 2 ^ 20)
value_bytes nested (Octets4 v) = v
value_bytes nested (Octets6 v) = v
value_bytes nested (Octets8 v) = v
value_bytes nested (Octets16 v) = v
value_bytes nested (Bytes v) = v.now
value_bytes nested (Text t) = terminated t.now
value_bytes nested (Warning t) = t.now
value_bytes nested (Kept v) = v.now
value_bytes nested (Nested n) = nested n

-- the value and all nested values have at most 65531 bytes
abbrev pub ValueFits : {N : Type 0} → (N → Type 0) → Value N → Type 0
ValueFits FitsIn (Octets4 v) = length v ≤ 65531
ValueFits FitsIn (Octets6 v) = length v ≤ 65531
ValueFits FitsIn (Octets8 v) = length v ≤ 65531
ValueFits FitsIn (Octets16 v) = length v ≤ 65531
ValueFits FitsIn (Bytes v) = length v.now ≤ 65531
ValueFits FitsIn (Text t) = length t.now < 65531
ValueFits FitsIn (Warning t) = length t.now ≤ 65531
ValueFits FitsIn (Kept v) = length v.now ≤ 65531
ValueFits FitsIn (Nested n) = FitsIn n
ValueFits FitsIn v = Unit {0}

-- numbers are in the range of their types, arrays have their length, texts are UTF-8
abbrev pub TypedValue : {N : Type 0} → (N → Type 0) → Value N → Type 0
TypedValue TypedIn (Presence b) = Unit {0}
TypedValue TypedIn (Truth b) = Unit {0}
TypedValue TypedIn (U8 n) = n < 256 ^ 1
TypedValue TypedIn (U16 n) = n < 256 ^ 2
TypedValue TypedIn (U32 n) = n < 256 ^ 4
TypedValue TypedIn (U16Be n) = n < 256 ^ 2
TypedValue TypedIn (U32Be n) = n < 256 ^ 4
TypedValue TypedIn (Bits1 n) = n < 256 ^ 1
TypedValue TypedIn (Bits3 n) = n < 256 ^ 1
TypedValue TypedIn (Bits20 n) = n < 256 ^ 4
TypedValue TypedIn (Octets4 v) = (length v ≡ 4) × IsBytes v
TypedValue TypedIn (Octets6 v) = (length v ≡ 6) × IsBytes v
TypedValue TypedIn (Octets8 v) = (length v ≡ 8) × IsBytes v
TypedValue TypedIn (Octets16 v) = (length v ≡ 16) × IsBytes v
TypedValue TypedIn (Bytes v) = IsBytes v.now
TypedValue TypedIn (Text t) = IsText t.now
TypedValue TypedIn (Warning t) = IsText t.now
TypedValue TypedIn (Kept v) = IsBytes v.now
TypedValue TypedIn (Nested n) = TypedIn n

-- encoding loses no part of it: a presence is true, no masked bit is set, a warning doesn't end in a NUL
abbrev pub SettledValue : {N : Type 0} → (List ℕ → N → Type 0) → List ℕ → Value N → Type 0
SettledValue SettledIn kind (Presence b) = b ≡ true
SettledValue SettledIn kind (Bits1 n) = n < 2 ^ 1
SettledValue SettledIn kind (Bits3 n) = n < 2 ^ 3
SettledValue SettledIn kind (Bits20 n) = n < 2 ^ 20
SettledValue SettledIn kind (Warning t) = strip t.now ≡ t.now
SettledValue SettledIn kind (Nested n) = SettledIn kind n
SettledValue SettledIn kind v = Unit {0}

-- settled, given whether the table reads the type: a raw value needs a type that isn't read, any other value one that
-- is, and encoding loses no part of it
abbrev pub SettledAs : {N : Type 0} → (List ℕ → N → Type 0) → Bool → List ℕ → Value N → Type 0
SettledAs SettledIn is_read kind (Kept v) = is_read ≡ false
SettledAs SettledIn is_read kind v = (is_read ≡ true) × SettledValue SettledIn kind v

-- A value without its width, byte order and mask, and equality of values with the same word.
use Rattle.std.specs.Prelude.{◌≡◌, ℕ, Bool, true, false, List, nat_eq}
use Rattle.std.specs.Bool.{beq}
use Rattle.std.specs.Cmp.Lexicographic.{pointwise}
use Rattle.tc_canon.specs.Descriptor.{Class, le, be, masked, array, raw, text, warning, presence, truth}
use Rattle.tc_meaning.specs.Equal.{same_content}
use Rattle.tc_values.specs.Inner.{Inner}
use Rattle.tc_values.specs.declared.same.Held.{Held}
use Rattle.tc_values.specs.declared.same.Held.TheVariants as held
use Rattle.tc_values.specs.declared.value.Value.{Value}
use Rattle.tc_values.specs.declared.value.Value.TheVariants.{Presence, Truth, U8, U16, U32, U16Be, U32Be, Bits1, Bits3, Bits20, Octets4, Octets6, Octets8}
use Rattle.tc_values.specs.declared.value.Value.TheVariants.{Octets16, Bytes, Text, Warning, Kept, Nested}

-- a value without its width, byte order and mask
pub data Holding (N : Type 0) : Type 0 where
  a_flag : Bool → Holding N
  a_number : ℕ → Holding N
  some_bytes : List ℕ → Holding N
  bytes_kept : List ℕ → Holding N
  what_is_nested : N → Holding N

abbrev pub holding : {N : Type 0} → Value N → Holding N
holding (Presence b) = a_flag b
holding (Truth b) = a_flag b
holding (U8 n) = a_number n
holding (U16 n) = a_number n
holding (U32 n) = a_number n
holding (U16Be n) = a_number n
holding (U32Be n) = a_number n
holding (Bits1 n) = a_number n
holding (Bits3 n) = a_number n
holding (Bits20 n) = a_number n
holding (Octets4 v) = some_bytes v
holding (Octets6 v) = some_bytes v
holding (Octets8 v) = some_bytes v
holding (Octets16 v) = some_bytes v
holding (Bytes v) = some_bytes v.now
holding (Text t) = some_bytes t.now
holding (Warning t) = some_bytes t.now
holding (Kept v) = bytes_kept v.now
holding (Nested n) = what_is_nested n

-- the same, from the code's `Held`
abbrev pub in_memory : {N : Type 0} → Held N → Holding N
in_memory (held.Flag b) = a_flag b
in_memory (held.Number n) = a_number n
in_memory (held.Bytes v) = some_bytes v.now
in_memory (held.Kept v) = bytes_kept v.now
in_memory (held.Nested n) = what_is_nested n.now

abbrev pub same_holding : {N : Type 0} → (N → N → Bool) → Holding N → Holding N → Bool
same_holding nested (a_flag a) (a_flag b) = beq a b
same_holding nested (a_number m) (a_number n) = nat_eq m n
same_holding nested (some_bytes v) (some_bytes w) = pointwise nat_eq v w
same_holding nested (bytes_kept v) (bytes_kept w) = pointwise nat_eq v w
same_holding nested (what_is_nested m) (what_is_nested n) = nested m n
same_holding nested x y = false

-- equality of two values with the same word
abbrev pub same_value : {N : Type 0} → (N → N → Bool) → Value N → Value N → Bool
same_value nested v w = same_holding nested (holding v) (holding w)

-- the class of a plain value
abbrev pub is_plain : Class → Bool
is_plain (le n) = true
is_plain (be n) = true
is_plain (masked n bits) = true
is_plain (array n) = true
is_plain raw = true
is_plain text = true
is_plain warning = true
is_plain presence = true
is_plain truth = true
is_plain class = false

-- `same` is equality of contents for nested payloads of one class
pub record IsSame {N : Type 0} (inner : Inner N) (same : N → N → Bool) : Type 0 where
  pub tells : (m n : N) → inner.class m ≡ inner.class n → same m n ≡ same_content (inner.content m) (inner.content n)
  pub nested : (n : N) → is_plain (inner.class n) ≡ false

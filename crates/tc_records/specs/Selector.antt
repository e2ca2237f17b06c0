-- The abstract values of a u32 selector and its keys: lists of fields.
use Rattle.std.specs.Prelude.{ℕ, List, [], ◌∷◌, map}
use Rattle.std.specs.Int.{w16, w32, cast_unsigned}
use Rattle.std.specs.List.{flat_map}
use Rattle.tc_canon.specs.Layouts.{selector_key}
use Rattle.tc_meaning.specs.Tree.{Scalar, plain, blank}
use Rattle.tc_meaning.specs.Layout.{fields_bytes}
use Rattle.tc_meaning.specs.Content.{Selector}
use Rattle.tc_records.specs.FilterFlags.{selector_flags_byte}
use Rattle.tc_records.specs.declared.filters.u32_selector.TcU32Key.{TcU32Key}
use Rattle.tc_records.specs.declared.filters.u32_selector.TcU32Selector.{TcU32Selector}

abbrev pub key_scalars : TcU32Key → List Scalar
key_scalars k = plain k.mask ∷ plain k.val ∷ plain (cast_unsigned w32 k.off) ∷ plain (cast_unsigned w32 k.offmask) ∷ []

-- the bytes of keys
abbrev pub keys_bytes : List (List Scalar) → List ℕ
keys_bytes keys = flat_map (fields_bytes selector_key) keys

abbrev pub head_scalars : {A : Type 0} → TcU32Selector A → List Scalar
head_scalars s =
    plain (selector_flags_byte s.flags)
    ∷ plain s.offshift
    ∷ plain s.nkeys
    ∷ blank
    ∷ plain s.offmask
    ∷ plain s.off
    ∷ plain (cast_unsigned w16 s.offoff)
    ∷ plain (cast_unsigned w16 s.hoff)
    ∷ plain s.hmask
    ∷ []

abbrev pub selector_of : {A : Type 0} → TcU32Selector A → Selector
selector_of s = record { head = head_scalars s; keys = map key_scalars s.keys.items }

-- no keys, every number 0
abbrev pub empty_selector : Selector
empty_selector = record {
  head = plain 0 ∷ plain 0 ∷ plain 0 ∷ blank ∷ plain 0 ∷ plain 0 ∷ plain 0 ∷ plain 0 ∷ plain 0 ∷ [];
  keys = [];
}

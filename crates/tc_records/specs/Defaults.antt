-- The defaults of records.
use Rattle.std.specs.Prelude.{◌≡◌, List, [], ◌∷◌, replicate}
use Rattle.tc_canon.specs.Descriptor.{Field}
use Rattle.tc_meaning.specs.Tree.{Scalar, plain}
use Rattle.tc_meaning.specs.Layout.{size_of, read_fields}
use Rattle.tc_records.specs.Actions.{generic_then_scalars, empty_generic}

-- the fields that a layout reads from zeros: every number 0, or the name of 0
abbrev pub zeros : List Field → List Scalar
zeros layout = read_fields layout (replicate (size_of layout) 0)

-- redirect to egress, interface 0
abbrev pub mirror_default : List Scalar
mirror_default = generic_then_scalars empty_generic (plain 1 ∷ plain 0 ∷ [])

-- neither set nor release
abbrev pub tunnel_key_default : List Scalar
tunnel_key_default = generic_then_scalars empty_generic (plain 0 ∷ [])

-- the default of a type has this abstract value
abbrev pub DefaultsTo : {X Y : Type 0} → (X → Type 0) → (X → Y) → Y → Type 0
DefaultsTo {X = X} is_default see value = (x : X) → is_default x → see x ≡ value

-- The steps of an upgrade.
use Rattle.std.specs.Prelude.{◌≡◌, ℕ, Bool, false, List, [], ◌∷◌, Option, unwrap_or, ◌==◌}
use Rattle.nla_frames.specs.Frame.{type_of}
use Rattle.tc_canon.specs.Descriptor.{is_known}
use Rattle.tc_canon.specs.Tables.Options.{option_kinds}
use Rattle.tc_meaning.specs.Tree.{Attribute, items, known, other, attributes_of}
use Rattle.tc_laws.specs.FirstVersion.{upgrade_attribute}

-- an attribute is upgraded as under a kind that is known or not
abbrev pub UpgradesAs : Bool → Attribute → Attribute → Type 0
UpgradesAs known_kind x y = (kind : List ℕ) → known_kind ≡ is_known option_kinds kind → y ≡ upgrade_attribute kind x

-- the kind after one that is known or not, where another may be set, is known or not
abbrev pub KnownAfter : Bool → Option (List ℕ) → Bool → Type 0
KnownAfter known_kind set then = (kind : List ℕ) → known_kind ≡ is_known option_kinds kind → then ≡ is_known option_kinds (unwrap_or set kind)

-- an option that is kept raw, of the type of options
abbrev pub is_raw : Attribute → Bool
is_raw (other word value) = type_of word == 2
is_raw _ = false

-- a single raw option
abbrev pub is_lone : List Attribute → Bool
is_lone (x ∷ []) = is_raw x
is_lone _ = false

-- options as one attribute
abbrev pub options_of : List Attribute → Attribute
options_of xs = known 2 (items (attributes_of xs))

-- it isn't kept raw
abbrev pub IsRead : Attribute → Type 0
IsRead x = (word : ℕ) (value : List ℕ) → x ≡ other word value → ⊥

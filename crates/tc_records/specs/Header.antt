-- The abstract value of a header: a list of fields.
use Rattle.std.specs.Prelude.{pos, ℕ, ◌+◌, ◌*◌, ◌/◌, ◌%◌, List, [], ◌∷◌}
use Rattle.std.specs.Int.{w32, cast_unsigned}
use Rattle.nla_frames.specs.declared.family.AddressFamily.TheVariants.{Unspec}
use Rattle.tc_meaning.specs.Tree.{Scalar, plain, blank}
use Rattle.tc_records.specs.Numbers.{family_scalar}
use Rattle.tc_records.specs.declared.header.TcHandle.{TcHandle}
use Rattle.tc_records.specs.declared.header.TcHeader.{TcHeader}

-- the major number is the upper half of the word
abbrev pub handle_of : ℕ → TcHandle
handle_of n = record { major = n / 0x10000; minor = n % 0x10000 }

abbrev pub handle_number : TcHandle → ℕ
handle_number h = h.major * 0x10000 + h.minor

abbrev pub header_scalars : TcHeader → List Scalar
header_scalars h =
    family_scalar h.family
    ∷ blank
    ∷ plain (cast_unsigned w32 h.index)
    ∷ plain (handle_number h.handle)
    ∷ plain (handle_number h.parent)
    ∷ plain h.info
    ∷ []

-- the default: the family `Unspec`, every number 0
abbrev pub empty_header : TcHeader
empty_header = record { family = Unspec; index = pos 0; handle = handle_of 0; parent = handle_of 0; info = 0 }

-- The abstract values of the records of actions: lists of fields.
use Rattle.std.specs.Prelude.{◌≡◌, pos, Bool, ◌&&◌, nat_eq, List, [], ◌∷◌}
use Rattle.std.specs.Int.{w32, cast_unsigned}
use Rattle.std.specs.Net.Addr.{ipv4_octets, IsUnspecifiedV4}
use Rattle.tc_meaning.specs.Tree.{Scalar, plain, octets_of, blank}
use Rattle.tc_records.specs.Numbers.{family_scalar}
use Rattle.tc_meaning.specs.Equal.{same_scalar}
use Rattle.tc_records.specs.NatFlags.{nat_flags_word}
use Rattle.tc_records.specs.ActionType.{action_type_scalar}
use Rattle.tc_records.specs.MirrorActionType.{mirror_action_type_scalar}
use Rattle.tc_records.specs.declared.actions.header.TcActionMessageHeader.{TcActionMessageHeader}
use Rattle.tc_records.specs.declared.actions.action.TcActionType.TheVariants.{Unspec}
use Rattle.tc_records.specs.declared.actions.action.TcActionGeneric.{TcActionGeneric}
use Rattle.tc_records.specs.declared.actions.mirror.TcMirror.{TcMirror}
use Rattle.tc_records.specs.declared.actions.nat.TcNat.{TcNat}
use Rattle.tc_records.specs.declared.actions.tunnel_key.TcTunnelKey.{TcTunnelKey}

abbrev pub action_message_header_scalars : TcActionMessageHeader → List Scalar
action_message_header_scalars h = family_scalar h.family ∷ blank ∷ []

-- the generic part, followed by other fields
abbrev pub generic_then_scalars : TcActionGeneric → List Scalar → List Scalar
generic_then_scalars g others =
    plain g.index
    ∷ plain g.capab
    ∷ action_type_scalar g.action
    ∷ plain (cast_unsigned w32 g.refcnt)
    ∷ plain (cast_unsigned w32 g.bindcnt)
    ∷ others

-- equality of two generic parts, and `rest`: equality of the fields after them
abbrev pub same_generic_then : TcActionGeneric → TcActionGeneric → Bool → Bool
same_generic_then g h rest =
    nat_eq g.index h.index
    && (nat_eq g.capab h.capab
    && (same_scalar (action_type_scalar g.action) (action_type_scalar h.action)
    && (nat_eq (cast_unsigned w32 g.refcnt) (cast_unsigned w32 h.refcnt)
    && (nat_eq (cast_unsigned w32 g.bindcnt) (cast_unsigned w32 h.bindcnt)
    && rest))))

abbrev pub generic_scalars : TcActionGeneric → List Scalar
generic_scalars g = generic_then_scalars g []

abbrev pub mirror_scalars : TcMirror → List Scalar
mirror_scalars m = generic_then_scalars m.generic
    (mirror_action_type_scalar m.eaction
    ∷ plain m.ifindex
    ∷ [])

abbrev pub nat_scalars : TcNat → List Scalar
nat_scalars n = generic_then_scalars n.generic
    (octets_of (ipv4_octets n.old_addr)
    ∷ octets_of (ipv4_octets n.new_addr)
    ∷ octets_of (ipv4_octets n.mask)
    ∷ plain (nat_flags_word n.flags)
    ∷ [])

abbrev pub tunnel_key_scalars : TcTunnelKey → List Scalar
tunnel_key_scalars k = generic_then_scalars k.generic
    (plain (cast_unsigned w32 k.t_action)
    ∷ [])

-- the default: the verdict `Unspec`, every number 0
abbrev pub empty_generic : TcActionGeneric
empty_generic = record { index = 0; capab = 0; action = Unspec; refcnt = pos 0; bindcnt = pos 0 }

-- the default: the verdict `Unspec`, every number 0, every address 0.0.0.0, no flags
pub record IsEmptyNat (n : TcNat) : Type 0 where
  pub generic : n.generic ≡ empty_generic
  pub old_addr : IsUnspecifiedV4 n.old_addr
  pub new_addr : IsUnspecifiedV4 n.new_addr
  pub mask : IsUnspecifiedV4 n.mask
  pub flags : nat_flags_word n.flags ≡ 0

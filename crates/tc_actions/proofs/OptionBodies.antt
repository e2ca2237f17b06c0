-- The nested values of options are those of their classes.
use Rattle.std.proofs.Common.{◌&&◌, Bool, nat_eq, refl, ap}
use Rattle.tc_canon.specs.Descriptor.{fields}
use Rattle.tc_canon.specs.Layouts.{tcf, mirror, nat, tunnel_key}
use Rattle.tc_meaning.specs.Content.{a_record, record_codec}
use Rattle.tc_values.specs.Inner.{IsInner}
use Rattle.tc_values.specs.Bodies.{same_of_either}
use Rattle.tc_values.specs.Records.{record_part}
use Rattle.tc_values.specs.Same.{IsSame}
use Rattle.tc_values.proofs.Bodies.{is_either}
use Rattle.tc_values.proofs.Records.{is_record, same_record, are_same_records, and_none, same_of}
use Rattle.tc_values.proofs.SameRows.{same_part, same_either}
use Rattle.tc_records.specs.Tcf.{tcf_scalars}
use Rattle.tc_records.specs.Actions.{mirror_scalars, nat_scalars, tunnel_key_scalars}
use Rattle.tc_records.specs.declared.actions.tcf.Tcf.{Tcf}
use Rattle.tc_actions.specs.Mirror.{mirror_body}
use Rattle.tc_actions.specs.Nat.{nat_body}
use Rattle.tc_actions.specs.TunnelKey.{tunnel_key_body}

pub is_mirror_body : IsInner mirror_body
is_mirror_body = is_either _ _ (is_record tcf_scalars tcf) (is_record mirror_scalars mirror)

pub is_nat_body : IsInner nat_body
is_nat_body = is_either _ _ (is_record tcf_scalars tcf) (is_record nat_scalars nat)

pub is_tunnel_key_body : IsInner tunnel_key_body
is_tunnel_key_body = is_either _ _ (is_record tcf_scalars tcf) (is_record tunnel_key_scalars tunnel_key)

-- ---- they are compared by their abstract values

abbrev same_times : Tcf → Tcf → Bool
same_times t u =
    nat_eq t.install u.install && (nat_eq t.lastuse u.lastuse && (nat_eq t.expires u.expires && nat_eq t.firstuse u.firstuse))

are_same_times : IsSame (record_part tcf_scalars tcf) (same_of same_times)
are_same_times = same_part tcf_scalars a_record (record_codec tcf) (fields tcf) same_times refl
    (λ t u. ap (λ last. nat_eq t.install u.install && (nat_eq t.lastuse u.lastuse && (nat_eq t.expires u.expires && last)))
    (and_none (nat_eq t.firstuse u.firstuse)))

pub same_nat_body : IsSame nat_body (same_of_either (same_of same_times) (same_record nat_scalars))
same_nat_body = same_either (λ l r e. absurd (cc e)) are_same_times (are_same_records nat_scalars nat)

pub same_mirror_body : IsSame mirror_body (same_of_either (same_of same_times) (same_record mirror_scalars))
same_mirror_body = same_either (λ l r e. absurd (cc e)) are_same_times (are_same_records mirror_scalars mirror)

pub same_tunnel_key_body : IsSame tunnel_key_body (same_of_either (same_of same_times) (same_record tunnel_key_scalars))
same_tunnel_key_body = same_either (λ l r e. absurd (cc e)) are_same_times (are_same_records tunnel_key_scalars tunnel_key)

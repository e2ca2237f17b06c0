-- The abstract value of an option of the action tunnel_key.
use Rattle.std.specs.Prelude.{◌≡◌}
use Rattle.std.specs.Net.Addr.{ipv4_octets, ipv6_octets}
use Rattle.nla_frames.specs.DefaultNla.{kept_frame}
use Rattle.tc_canon.specs.Layouts.{tcf, tunnel_key}
use Rattle.tc_meaning.specs.Tree.{Attribute, known, other, number, is_bytes, flag, record_of}
use Rattle.tc_values.specs.Inner.{Inner}
use Rattle.tc_values.specs.Bodies.{either}
use Rattle.tc_values.specs.declared.body.Record.{Record}
use Rattle.tc_values.specs.declared.body.Either.{Either}
use Rattle.tc_records.specs.declared.actions.tcf.Tcf.{Tcf}
use Rattle.tc_records.specs.declared.actions.tunnel_key.TcTunnelKey.{TcTunnelKey}
use Rattle.tc_records.specs.Tcf.{tcf_scalars}
use Rattle.tc_records.specs.Actions.{tunnel_key_scalars}
use Rattle.tc_values.specs.Records.{record_part}
use Rattle.tc_actions.specs.declared.actions.tunnel_key.TcActionTunnelKeyOption.{TcActionTunnelKeyOption}
use Rattle.tc_actions.specs.declared.actions.tunnel_key.TcActionTunnelKeyOption.TheVariants.{Tm, Parms, EncIpv4Src, EncIpv4Dst, EncIpv6Src, EncIpv6Dst}
use Rattle.tc_actions.specs.declared.actions.tunnel_key.TcActionTunnelKeyOption.TheVariants.{EncKeyId, EncDstPort, NoCsum, EncTos, EncTtl, Other}

abbrev pub tunnel_key_option : {A : Type 0} → TcActionTunnelKeyOption A → Attribute
tunnel_key_option (Tm times) = known 1 (record_of (tcf_scalars times))
tunnel_key_option (Parms parms) = known 2 (record_of (tunnel_key_scalars parms))
tunnel_key_option (EncIpv4Src address) = known 3 (is_bytes (ipv4_octets address))
tunnel_key_option (EncIpv4Dst address) = known 4 (is_bytes (ipv4_octets address))
tunnel_key_option (EncIpv6Src address) = known 5 (is_bytes (ipv6_octets address))
tunnel_key_option (EncIpv6Dst address) = known 6 (is_bytes (ipv6_octets address))
tunnel_key_option (EncKeyId n) = known 7 (number n)
tunnel_key_option (EncDstPort n) = known 9 (number n)
tunnel_key_option (NoCsum is_set) = known 10 (flag is_set)
tunnel_key_option (EncTos n) = known 12 (number n)
tunnel_key_option (EncTtl n) = known 13 (number n)
tunnel_key_option (Other nla) = other (kept_frame nla).word (kept_frame nla).value

-- nested values of the options
abbrev pub tunnel_key_body : Inner (Either (Record Tcf) (Record TcTunnelKey))
tunnel_key_body = either (record_part tcf_scalars tcf) (record_part tunnel_key_scalars tunnel_key)

-- two options hold the same: `Parms`, which has signed numbers, the same fields; an IPv6 address the same octets; one that
-- is kept raw the same word and payload; all others are equal
abbrev pub SameTunnelKey : {A : Type 0} → TcActionTunnelKeyOption A → TcActionTunnelKeyOption A → Type 0
SameTunnelKey (Parms x) (Parms y) = tunnel_key_scalars x ≡ tunnel_key_scalars y
SameTunnelKey (EncIpv6Src a) (EncIpv6Src b) = ipv6_octets a ≡ ipv6_octets b
SameTunnelKey (EncIpv6Dst a) (EncIpv6Dst b) = ipv6_octets a ≡ ipv6_octets b
SameTunnelKey (Other x) (Other y) = kept_frame x ≡ kept_frame y
SameTunnelKey a b = a ≡ b

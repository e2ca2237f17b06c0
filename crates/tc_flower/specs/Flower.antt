-- The abstract value of an option of flower.
use Rattle.std.specs.Prelude.{◌≡◌, map, string_bytes}
use Rattle.std.specs.List.{AllZip}
use Rattle.std.specs.Net.Addr.{ipv4_octets, ipv6_octets}
use Rattle.nla_frames.specs.DefaultNla.{kept_frame}
use Rattle.tc_canon.specs.Descriptor.{table}
use Rattle.tc_canon.specs.Tables.Flower.{mpls_options}
use Rattle.tc_meaning.specs.Tree.{Attribute, known, other, number, is_bytes, items, attributes_of}
use Rattle.tc_values.specs.Inner.{Inner}
use Rattle.tc_values.specs.Bodies.{items_of, either}
use Rattle.tc_values.specs.declared.body.Items.{Items}
use Rattle.tc_values.specs.declared.body.Either.{Either}
use Rattle.tc_actions.specs.Action.{tc_action, an_action}
use Rattle.tc_actions.specs.declared.actions.action.TcAction.{TcAction}
use Rattle.tc_flower.specs.declared.filters.flower.mpls.TcFilterFlowerMplsOption.{TcFilterFlowerMplsOption}
use Rattle.tc_flower.specs.declared.filters.flower.options.TcFilterFlowerOption.{TcFilterFlowerOption}
use Rattle.tc_flower.specs.declared.filters.flower.options.TcFilterFlowerOption.TheVariants as option
use Rattle.tc_flower.specs.Mpls.{mpls_option}

abbrev pub flower_option : {A : Type 0} → TcFilterFlowerOption A → Attribute
flower_option (option.ClassId n) = known 1 (number n)
flower_option (option.InDev name) = known 2 (is_bytes (string_bytes name))
flower_option (option.Actions actions) = known 3 (items (attributes_of (map tc_action actions.items)))
flower_option (option.EthDst mac) = known 4 (is_bytes mac)
flower_option (option.EthDstMask mac) = known 5 (is_bytes mac)
flower_option (option.EthSrc mac) = known 6 (is_bytes mac)
flower_option (option.EthSrcMask mac) = known 7 (is_bytes mac)
flower_option (option.EthType n) = known 8 (number n)
flower_option (option.IpProto n) = known 9 (number n)
flower_option (option.Ipv4Src ip) = known 10 (is_bytes (ipv4_octets ip))
flower_option (option.Ipv4SrcMask ip) = known 11 (is_bytes (ipv4_octets ip))
flower_option (option.Ipv4Dst ip) = known 12 (is_bytes (ipv4_octets ip))
flower_option (option.Ipv4DstMask ip) = known 13 (is_bytes (ipv4_octets ip))
flower_option (option.Ipv6Src ip) = known 14 (is_bytes (ipv6_octets ip))
flower_option (option.Ipv6SrcMask ip) = known 15 (is_bytes (ipv6_octets ip))
flower_option (option.Ipv6Dst ip) = known 16 (is_bytes (ipv6_octets ip))
flower_option (option.Ipv6DstMask ip) = known 17 (is_bytes (ipv6_octets ip))
flower_option (option.TcpSrc n) = known 18 (number n)
flower_option (option.TcpDst n) = known 19 (number n)
flower_option (option.UdpSrc n) = known 20 (number n)
flower_option (option.UdpDst n) = known 21 (number n)
flower_option (option.Flags n) = known 22 (number n)
flower_option (option.VlanId n) = known 23 (number n)
flower_option (option.VlanPrio n) = known 24 (number n)
flower_option (option.VlanEthType n) = known 25 (number n)
flower_option (option.EncKeyId n) = known 26 (number n)
flower_option (option.EncKeyIpv4Src ip) = known 27 (is_bytes (ipv4_octets ip))
flower_option (option.EncKeyIpv4SrcMask ip) = known 28 (is_bytes (ipv4_octets ip))
flower_option (option.EncKeyIpv4Dst ip) = known 29 (is_bytes (ipv4_octets ip))
flower_option (option.EncKeyIpv4DstMask ip) = known 30 (is_bytes (ipv4_octets ip))
flower_option (option.EncKeyIpv6Src ip) = known 31 (is_bytes (ipv6_octets ip))
flower_option (option.EncKeyIpv6SrcMask ip) = known 32 (is_bytes (ipv6_octets ip))
flower_option (option.EncKeyIpv6Dst ip) = known 33 (is_bytes (ipv6_octets ip))
flower_option (option.EncKeyIpv6DstMask ip) = known 34 (is_bytes (ipv6_octets ip))
flower_option (option.TcpSrcMask n) = known 35 (number n)
flower_option (option.TcpDstMask n) = known 36 (number n)
flower_option (option.UdpSrcMask n) = known 37 (number n)
flower_option (option.UdpDstMask n) = known 38 (number n)
flower_option (option.SctpSrcMask n) = known 39 (number n)
flower_option (option.SctpDstMask n) = known 40 (number n)
flower_option (option.SctpSrc n) = known 41 (number n)
flower_option (option.SctpDst n) = known 42 (number n)
flower_option (option.EncKeyUdpSrcPort n) = known 43 (number n)
flower_option (option.EncKeyUdpSrcPortMask n) = known 44 (number n)
flower_option (option.EncKeyUdpDstPort n) = known 45 (number n)
flower_option (option.EncKeyUdpDstPortMask n) = known 46 (number n)
flower_option (option.KeyFlags n) = known 47 (number n)
flower_option (option.KeyFlagsMask n) = known 48 (number n)
flower_option (option.Icmpv4Code n) = known 49 (number n)
flower_option (option.Icmpv4CodeMask n) = known 50 (number n)
flower_option (option.Icmpv4Type n) = known 51 (number n)
flower_option (option.Icmpv4TypeMask n) = known 52 (number n)
flower_option (option.Icmpv6Code n) = known 53 (number n)
flower_option (option.Icmpv6CodeMask n) = known 54 (number n)
flower_option (option.Icmpv6Type n) = known 55 (number n)
flower_option (option.Icmpv6TypeMask n) = known 56 (number n)
flower_option (option.ArpSip ip) = known 57 (is_bytes (ipv4_octets ip))
flower_option (option.ArpSipMask ip) = known 58 (is_bytes (ipv4_octets ip))
flower_option (option.ArpTip ip) = known 59 (is_bytes (ipv4_octets ip))
flower_option (option.ArpTipMask ip) = known 60 (is_bytes (ipv4_octets ip))
flower_option (option.ArpOp n) = known 61 (number n)
flower_option (option.ArpOpMask n) = known 62 (number n)
flower_option (option.ArpSha mac) = known 63 (is_bytes mac)
flower_option (option.ArpShaMask mac) = known 64 (is_bytes mac)
flower_option (option.ArpTha mac) = known 65 (is_bytes mac)
flower_option (option.ArpThaMask mac) = known 66 (is_bytes mac)
flower_option (option.MplsTtl n) = known 67 (number n)
flower_option (option.MplsBos n) = known 68 (number n)
flower_option (option.MplsTc n) = known 69 (number n)
flower_option (option.MplsLabel n) = known 70 (number n)
flower_option (option.TcpFlags n) = known 71 (number n)
flower_option (option.TcpFlagsMask n) = known 72 (number n)
flower_option (option.IpTos n) = known 73 (number n)
flower_option (option.IpTosMask n) = known 74 (number n)
flower_option (option.IpTtl n) = known 75 (number n)
flower_option (option.IpTtlMask n) = known 76 (number n)
flower_option (option.CvlanId n) = known 77 (number n)
flower_option (option.CvlanPrio n) = known 78 (number n)
flower_option (option.CvlanEthType n) = known 79 (number n)
flower_option (option.EncKeyIpTos n) = known 80 (number n)
flower_option (option.EncKeyIpTosMask n) = known 81 (number n)
flower_option (option.EncKeyIpTtl n) = known 82 (number n)
flower_option (option.EncKeyIpTtlMask n) = known 83 (number n)
flower_option (option.InHwCount n) = known 86 (number n)
flower_option (option.PortSrcMin n) = known 87 (number n)
flower_option (option.PortSrcMax n) = known 88 (number n)
flower_option (option.PortDstMin n) = known 89 (number n)
flower_option (option.PortDstMax n) = known 90 (number n)
flower_option (option.CtState n) = known 91 (number n)
flower_option (option.CtStateMask n) = known 92 (number n)
flower_option (option.CtZone n) = known 93 (number n)
flower_option (option.CtZoneMask n) = known 94 (number n)
flower_option (option.CtMark n) = known 95 (number n)
flower_option (option.CtMarkMask n) = known 96 (number n)
flower_option (option.CtLabels labels) = known 97 (is_bytes labels)
flower_option (option.CtLabelsMask labels) = known 98 (is_bytes labels)
flower_option (option.MplsOpts options) = known 99 (items (attributes_of (map mpls_option options.items)))
flower_option (option.KeyHash n) = known 100 (number n)
flower_option (option.KeyHashMask n) = known 101 (number n)
flower_option (option.Other nla) = other (kept_frame nla).word (kept_frame nla).value

-- two options hold the same: the same text, actions or options of MPLS that are seen alike one by one; one that is kept
-- raw the same word and payload; all others are equal
abbrev pub SameFlower : {A : Type 0} → TcFilterFlowerOption A → TcFilterFlowerOption A → Type 0
SameFlower (option.InDev s) (option.InDev t) = string_bytes s ≡ string_bytes t
SameFlower (option.Actions v) (option.Actions w) = map tc_action v.items ≡ map tc_action w.items
SameFlower (option.MplsOpts v) (option.MplsOpts w) = map mpls_option v.items ≡ map mpls_option w.items
SameFlower (option.Other x) (option.Other y) = kept_frame x ≡ kept_frame y
SameFlower a b = a ≡ b

-- nested values of the options: actions, or matches on MPLS
abbrev pub flower_lists : {A : Type 0} → Inner (Either (Items (TcAction A)) (Items (TcFilterFlowerMplsOption A)))
flower_lists = either (items_of tc_action an_action) (items_of mpls_option (table mpls_options))

-- a copy of an option: of a list, copies of its elements, place by place
abbrev pub IsCopy : {A : Type 0} → (TcAction A → TcAction A → Type 0) → (TcFilterFlowerMplsOption A → TcFilterFlowerMplsOption A → Type 0)
    → TcFilterFlowerOption A
    → TcFilterFlowerOption A → Type 0
IsCopy ActionCopied MplsCopied (option.Actions actions) (option.Actions copies) = AllZip ActionCopied actions.items copies.items
IsCopy ActionCopied MplsCopied (option.MplsOpts options) (option.MplsOpts copies) = AllZip MplsCopied options.items copies.items
IsCopy ActionCopied MplsCopied x copy = flower_option copy ≡ flower_option x

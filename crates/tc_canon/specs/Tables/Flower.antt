-- The tables of flower.
use Rattle.tc_canon.specs.Descriptor.{Class, Rows, others, unread, le, be, masked, array, text, list_of, table, ◌▹◌, at, from, nested}
use Rattle.tc_canon.specs.Tables.Actions.{actions}

-- `TcFilterFlowerMplsLseOption`
abbrev pub lse_options : Rows
lse_options =
    from 1 4 (le 1)  -- LseDepth, LseTtl, LseBos, LseTc
    ▹ at 5 (masked 4 20)  -- LseLabel
    ▹ others

-- `TcFilterFlowerMplsOption`
abbrev pub mpls_options : Rows
mpls_options =
    nested 1 (list_of (table lse_options))  -- Lse
    ▹ others

-- a MAC address, and addresses of IPv4 and IPv6
abbrev pub mac : Class
mac = array 6

abbrev pub ipv4 : Class
ipv4 = array 4

abbrev pub ipv6 : Class
ipv6 = array 16

-- `TcFilterFlowerOption`
abbrev pub flower_options : Rows
flower_options =
    unread 1 (le 4)  -- ClassId
    ▹ at 2 text  -- InDev
    ▹ at 3 actions  -- Actions
    ▹ from 4 7 mac  -- EthDst, EthDstMask, EthSrc, EthSrcMask
    ▹ at 8 (be 2)  -- EthType
    ▹ at 9 (le 1)  -- IpProto
    ▹ from 10 13 ipv4  -- Ipv4Src, Ipv4SrcMask, Ipv4Dst, Ipv4DstMask
    ▹ from 14 17 ipv6  -- Ipv6Src, Ipv6SrcMask, Ipv6Dst, Ipv6DstMask
    ▹ from 18 21 (be 2)  -- TcpSrc, TcpDst, UdpSrc, UdpDst
    ▹ at 22 (le 4)  -- Flags
    ▹ at 23 (le 2)  -- VlanId
    ▹ at 24 (le 1)  -- VlanPrio
    ▹ at 25 (be 2)  -- VlanEthType
    ▹ at 26 (be 4)  -- EncKeyId
    ▹ from 27 30 ipv4  -- EncKeyIpv4Src, EncKeyIpv4SrcMask, EncKeyIpv4Dst, EncKeyIpv4DstMask
    ▹ from 31 34 ipv6  -- EncKeyIpv6Src, EncKeyIpv6SrcMask, EncKeyIpv6Dst, EncKeyIpv6DstMask
    ▹ from 35 38 (be 2)  -- TcpSrcMask, TcpDstMask, UdpSrcMask, UdpDstMask
    ▹ from 39 42 (be 2)  -- SctpSrcMask, SctpDstMask, SctpSrc, SctpDst
    ▹ from 43 46 (be 2)  -- EncKeyUdpSrcPort, EncKeyUdpSrcPortMask, EncKeyUdpDstPort, EncKeyUdpDstPortMask
    ▹ from 47 48 (be 4)  -- KeyFlags, KeyFlagsMask
    ▹ from 49 52 (le 1)  -- Icmpv4Code, Icmpv4CodeMask, Icmpv4Type, Icmpv4TypeMask
    ▹ from 53 56 (le 1)  -- Icmpv6Code, Icmpv6CodeMask, Icmpv6Type, Icmpv6TypeMask
    ▹ from 57 60 ipv4  -- ArpSip, ArpSipMask, ArpTip, ArpTipMask
    ▹ from 61 62 (le 1)  -- ArpOp, ArpOpMask
    ▹ from 63 66 mac  -- ArpSha, ArpShaMask, ArpTha, ArpThaMask
    ▹ at 67 (le 1)  -- MplsTtl
    ▹ at 68 (masked 1 1)  -- MplsBos
    ▹ at 69 (masked 1 3)  -- MplsTc
    ▹ at 70 (masked 4 20)  -- MplsLabel
    ▹ from 71 72 (be 2)  -- TcpFlags, TcpFlagsMask
    ▹ from 73 76 (le 1)  -- IpTos, IpTosMask, IpTtl, IpTtlMask
    ▹ at 77 (le 2)  -- CvlanId
    ▹ at 78 (le 1)  -- CvlanPrio
    ▹ at 79 (be 2)  -- CvlanEthType
    ▹ from 80 83 (le 1)  -- EncKeyIpTos, EncKeyIpTosMask, EncKeyIpTtl, EncKeyIpTtlMask
    ▹ at 86 (le 4)  -- InHwCount
    ▹ from 87 90 (be 2)  -- PortSrcMin, PortSrcMax, PortDstMin, PortDstMax
    ▹ from 91 94 (le 2)  -- CtState, CtStateMask, CtZone, CtZoneMask
    ▹ from 95 96 (le 4)  -- CtMark, CtMarkMask
    ▹ from 97 98 (array 16)  -- CtLabels, CtLabelsMask
    ▹ nested 99 (list_of (table mpls_options))  -- MplsOpts
    ▹ from 100 101 (le 4)  -- KeyHash, KeyHashMask
    ▹ others

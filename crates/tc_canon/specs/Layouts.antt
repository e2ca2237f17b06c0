-- The fixed records, field by field. A signed number is its bit pattern: -1 in four bytes is 4294967295.
use Rattle.std.specs.Prelude.{ℕ, ◌+◌, List, [], ◌∷◌}
use Rattle.tc_canon.specs.Descriptor.{Field, little, big, named, octets, pad}

-- the length of a field in bytes
abbrev pub width : Field → ℕ
width (little n) = n
width (big n) = n
width (named n names) = n
width (octets n) = n
width (pad n) = n

-- the length of a record in bytes
abbrev pub size_of : List Field → ℕ
size_of [] = 0
size_of (f ∷ fs) = width f + size_of fs

-- ---- the numbers that have names

-- `AddressFamily`: Unspec, Unix, Inet, Bridge, Inet6, Netlink, Packet, Mpls
abbrev pub address_families : List ℕ
address_families = 0 ∷ 1 ∷ 2 ∷ 7 ∷ 10 ∷ 16 ∷ 17 ∷ 28 ∷ []

-- `TcActionType`: Unspec (-1), Ok, Reclassify, Shot, Pipe, Stolen, Queued, Repeat, Redirect, Trap
abbrev pub action_types : List ℕ
action_types = 4294967295 ∷ 0 ∷ 1 ∷ 2 ∷ 3 ∷ 4 ∷ 5 ∷ 6 ∷ 7 ∷ 8 ∷ []

-- `TcMirrorActionType`: EgressRedir, EgressMirror, IngressRedir, IngressMirror
abbrev pub mirror_action_types : List ℕ
mirror_action_types = 1 ∷ 2 ∷ 3 ∷ 4 ∷ []

-- ---- headers of messages

-- `TcHeader`, 20 bytes
abbrev pub tc_header : List Field
tc_header =
    named 1 address_families  -- family
    ∷ pad 3
    ∷ little 4  -- index
    ∷ little 4  -- handle
    ∷ little 4  -- parent
    ∷ little 4  -- info
    ∷ []

-- `TcActionMessageHeader`, 4 bytes
abbrev pub action_message_header : List Field
action_message_header =
    named 1 address_families  -- family
    ∷ pad 3
    ∷ []

-- ---- statistics

-- `TcStats`, 40 bytes
abbrev pub stats : List Field
stats =
    little 8  -- bytes
    ∷ little 4  -- packets
    ∷ little 4  -- drops
    ∷ little 4  -- overlimits
    ∷ little 4  -- bps
    ∷ little 4  -- pps
    ∷ little 4  -- qlen
    ∷ little 4  -- backlog
    ∷ pad 4
    ∷ []

-- `TcStatsBasic`, 16 bytes
abbrev pub stats_basic : List Field
stats_basic =
    little 8  -- bytes
    ∷ little 4  -- packets
    ∷ pad 4
    ∷ []

-- `TcStatsQueue`, 20 bytes
abbrev pub stats_queue : List Field
stats_queue =
    little 4  -- qlen
    ∷ little 4  -- backlog
    ∷ little 4  -- drops
    ∷ little 4  -- requeues
    ∷ little 4  -- overlimits
    ∷ []

-- `TcFqCodelQdStats`, 36 bytes
abbrev pub fq_codel_qd_stats : List Field
fq_codel_qd_stats =
    little 4  -- maxpacket
    ∷ little 4  -- drop_overlimit
    ∷ little 4  -- ecn_mark
    ∷ little 4  -- new_flow_count
    ∷ little 4  -- new_flows_len
    ∷ little 4  -- old_flows_len
    ∷ little 4  -- ce_mark
    ∷ little 4  -- memory_usage
    ∷ little 4  -- drop_overmemory
    ∷ []

-- `TcFqCodelClStats`, 24 bytes
abbrev pub fq_codel_cl_stats : List Field
fq_codel_cl_stats =
    little 4  -- deficit, signed
    ∷ little 4  -- ldelay
    ∷ little 4  -- count
    ∷ little 4  -- lastcount
    ∷ little 4  -- dropping
    ∷ little 4  -- drop_next, signed
    ∷ []

-- ---- actions

-- `Tcf`, 32 bytes
abbrev pub tcf : List Field
tcf =
    little 8  -- install
    ∷ little 8  -- lastuse
    ∷ little 8  -- expires
    ∷ little 8  -- firstuse
    ∷ []

-- `TcActionGeneric`, 20 bytes, at the front of each of the three records below
abbrev pub generic_then : List Field → List Field
generic_then fields =
    little 4  -- index
    ∷ little 4  -- capab
    ∷ named 4 action_types  -- action, signed
    ∷ little 4  -- refcnt, signed
    ∷ little 4  -- bindcnt, signed
    ∷ fields

abbrev pub action_generic : List Field
action_generic = generic_then []

-- `TcMirror`, 28 bytes
abbrev pub mirror : List Field
mirror = generic_then
    (named 4 mirror_action_types  -- eaction, signed
    ∷ little 4  -- ifindex
    ∷ [])

-- `TcNat`, 36 bytes
abbrev pub nat : List Field
nat = generic_then
    (octets 4  -- old_addr
    ∷ octets 4  -- new_addr
    ∷ octets 4  -- mask
    ∷ little 4  -- flags
    ∷ [])

-- `TcTunnelKey`, 24 bytes
abbrev pub tunnel_key : List Field
tunnel_key = generic_then
    (little 4  -- t_action, signed
    ∷ [])

-- ---- the selector of u32

-- `TcU32Selector` without its keys, 16 bytes; the third field is the number of keys
abbrev pub selector_head : List Field
selector_head =
    little 1  -- flags
    ∷ little 1  -- offshift
    ∷ little 1  -- nkeys
    ∷ pad 1
    ∷ big 2  -- offmask
    ∷ little 2  -- off
    ∷ little 2  -- offoff, signed
    ∷ little 2  -- hoff, signed
    ∷ big 4  -- hmask
    ∷ []

-- `TcU32Key`, 16 bytes
abbrev pub selector_key : List Field
selector_key =
    big 4  -- mask
    ∷ big 4  -- val
    ∷ little 4  -- off, signed
    ∷ little 4  -- offmask, signed
    ∷ []

-- The tables of actions.
use Rattle.std.specs.Prelude.{codes}
use Rattle.tc_canon.specs.Descriptor.{Class, Rows, Kinds, others, unknown, kind, le, be, array, raw, text, truth, fields, list_of, own_list, table, every}
use Rattle.tc_canon.specs.Descriptor.{by_kind, ◌▹◌, at, from, nested}
use Rattle.tc_canon.specs.Layouts.{tcf, mirror, nat, tunnel_key}
use Rattle.tc_canon.specs.Tables.Statistics.{stats2}

-- `TcActionMirrorOption`
abbrev pub mirror_options : Rows
mirror_options =
    at 1 (fields tcf)  -- Tm
    ▹ at 2 (fields mirror)  -- Parms
    ▹ others

-- `TcActionNatOption`
abbrev pub nat_options : Rows
nat_options =
    at 1 (fields nat)  -- Parms
    ▹ at 2 (fields tcf)  -- Tm
    ▹ others

-- `TcActionTunnelKeyOption`
abbrev pub tunnel_key_options : Rows
tunnel_key_options =
    at 1 (fields tcf)  -- Tm
    ▹ at 2 (fields tunnel_key)  -- Parms
    ▹ from 3 4 (array 4)  -- EncIpv4Src, EncIpv4Dst
    ▹ from 5 6 (array 16)  -- EncIpv6Src, EncIpv6Dst
    ▹ at 7 (be 4)  -- EncKeyId
    ▹ at 9 (be 2)  -- EncDstPort
    ▹ at 10 truth  -- NoCsum
    ▹ at 12 (le 1)  -- EncTos
    ▹ at 13 (le 1)  -- EncTtl
    ▹ others

-- the known kinds of an action
abbrev pub action_option_kinds : Kinds
action_option_kinds =
    kind (codes "mirred") mirror_options
    (kind (codes "nat") nat_options
    (kind (codes "tunnel_key") tunnel_key_options
    unknown))

-- `TcActionAttribute`
abbrev pub action_attributes : Rows
action_attributes =
    at 1 text  -- Kind
    ▹ nested 2 (list_of (by_kind action_option_kinds))  -- Options
    ▹ at 3 (le 4)  -- Index
    ▹ at 4 (list_of (table stats2))  -- Stats
    ▹ at 6 raw  -- Cookie
    ▹ at 10 (le 4)  -- InHwCount
    ▹ others

-- a list of `TcAction`: each frame is an action, whatever its type
abbrev pub actions : Class
actions = list_of (every (own_list action_attributes))

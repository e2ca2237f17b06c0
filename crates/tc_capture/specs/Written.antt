-- The bytes of a written capture: a little-endian pcap file with times in nanoseconds and packets of LINKTYPE_NETLINK.
use Rattle.std.specs.Prelude.{ℕ, ◌+◌, List, [], ◌∷◌, ◌++◌, length}
use Rattle.std.specs.Int.{w16, w32, to_le_bytes, to_be_bytes}

-- `struct nlmsghdr`: length, type, flags, sequence number, port
abbrev pub netlink_header : ℕ → ℕ → ℕ → ℕ → ℕ → List ℕ
netlink_header len kind flags sequence port =
    to_le_bytes w32 len ++ to_le_bytes w16 kind ++ to_le_bytes w16 flags ++ to_le_bytes w32 sequence ++ to_le_bytes w32 port

-- a netlink header and a message
abbrev pub in_netlink : ℕ → ℕ → ℕ → ℕ → List ℕ → List ℕ
in_netlink kind flags sequence port bytes = netlink_header (length bytes + 16) kind flags sequence port ++ bytes

-- the cooked header of LINKTYPE_NETLINK: the packet type, ARPHRD_NETLINK (824), no address, NETLINK_ROUTE
abbrev pub cooked : ℕ → List ℕ
cooked packet_type = to_be_bytes w16 packet_type ++ 3 ∷ 0x38 ∷ 0 ∷ 0 ∷ 0 ∷ 0 ∷ 0 ∷ 0 ∷ 0 ∷ 0 ∷ 0 ∷ 0 ∷ 0 ∷ 0 ∷ []

-- the header of the file: the magic number a1b23c4d, version 2.4, packets of 1 MiB at most, the link type
abbrev pub file_header : List ℕ
file_header = 0x4d ∷ 0x3c ∷ 0xb2 ∷ 0xa1 ∷ 2 ∷ 0 ∷ 4 ∷ 0 ∷ 0 ∷ 0 ∷ 0 ∷ 0 ∷ 0 ∷ 0 ∷ 0 ∷ 0 ∷ 0 ∷ 0 ∷ 0x10 ∷ 0 ∷ 253 ∷ 0 ∷ 0 ∷ 0 ∷ []

-- the header the header before the messages of a packet: seconds and nanoseconds, its length twice, and the cooked
-- header
abbrev pub packet_header : ℕ → ℕ → ℕ → ℕ → List ℕ
packet_header seconds nanoseconds len packet_type =
    to_le_bytes w32 seconds ++ to_le_bytes w32 nanoseconds ++ to_le_bytes w32 len ++ to_le_bytes w32 len ++ cooked packet_type

-- Addresses as text, from their octets, most significant first.
use Rattle.std.specs.Prelude.{ℕ, Bool, List, [], ◌∷◌, ◌++◌, take, drop, slice_index, codes, bytes_eq, nat_lt, ◌&&◌, if◌then◌else◌}
use Rattle.std.specs.Net.Addr.{segments_of, octets_of}
use Rattle.std.specs.Net.Text as Net
use Rattle.tc_texts.specs.Hex.{octet_text}

-- a MAC address: six octets of two hex digits, separated by colons
abbrev pub mac_text : List ℕ → List ℕ
mac_text o =
    octet_text (slice_index o 0) ++ codes ":" ++ octet_text (slice_index o 1) ++ codes ":"
    ++ octet_text (slice_index o 2) ++ codes ":" ++ octet_text (slice_index o 3) ++ codes ":"
    ++ octet_text (slice_index o 4) ++ codes ":" ++ octet_text (slice_index o 5)

-- an IPv4 address: four decimal numbers without leading zeros, separated by dots
abbrev pub ipv4_text : List ℕ → List ℕ
ipv4_text octets = Net.ipv4_text octets

-- an IPv6 address ends in four octets as an IPv4 address after six groups of zeros, if the seventh group isn't zero
abbrev pub ends_in_ipv4 : List ℕ → Bool
ends_in_ipv4 segments =
    bytes_eq (take 6 segments) (0 ∷ 0 ∷ 0 ∷ 0 ∷ 0 ∷ 0 ∷ []) && nat_lt 0 (slice_index segments 6)

-- eight groups of 16 bits as `inet_ntop` of glibc writes them. Such an address is `::1.2.3.4`, and any other as std
-- writes it (RFC 5952): lower-case hex without leading zeros, `::` for the longest run of two or more groups of zeros,
-- of equals the first, and `::ffff:1.2.3.4` for an IPv4-mapped address.
unfoldable pub segments_text : List ℕ → List ℕ
segments_text segments =
    if ends_in_ipv4 segments then codes "::" ++ ipv4_text (octets_of (drop 6 segments))
    else Net.ipv6_text segments

-- an IPv6 address
abbrev pub ipv6_text : List ℕ → List ℕ
ipv6_text octets = segments_text (segments_of octets)

-- The numbers of the address families, as in `linux/socket.h`.
use Rattle.std.specs.Prelude.{ℕ, ◌==◌, if◌then◌else◌}
use Rattle.nla_frames.specs.declared.family.AddressFamily.{AddressFamily}
use Rattle.nla_frames.specs.declared.family.AddressFamily.TheVariants.{Unspec, Unix, Inet, Bridge, Inet6, Netlink, Packet, Mpls, Other}

-- the family of a number
abbrev pub family_of : ℕ → AddressFamily
family_of n =
    if n == 0 then Unspec else
    if n == 1 then Unix else
    if n == 2 then Inet else
    if n == 7 then Bridge else
    if n == 10 then Inet6 else
    if n == 16 then Netlink else
    if n == 17 then Packet else
    if n == 28 then Mpls else
    Other n

-- the number of a family
abbrev pub number_of : AddressFamily → ℕ
number_of Unspec = 0
number_of Unix = 1
number_of Inet = 2
number_of Bridge = 7
number_of Inet6 = 10
number_of Netlink = 16
number_of Packet = 17
number_of Mpls = 28
number_of (Other n) = n

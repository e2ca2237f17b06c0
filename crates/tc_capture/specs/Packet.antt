-- A packet of a capture, and the netlink messages in it.
use Rattle.std.specs.Prelude.{ℕ, List, length, drop, Bool, Option, Some, None, Ok, Err, nat_lt, ◌==◌, if◌then◌else◌}
use Rattle.byteorder.specs.Endian.{big_number}
use Rattle.tc_capture.specs.declared.error.CaptureError.TheVariants.{Short}
use Rattle.tc_capture.specs.declared.packet.Link.{Link}
use Rattle.tc_capture.specs.declared.packet.Link.TheVariants.{Plain, Cooked, Other}
use Rattle.tc_capture.specs.declared.packet.Packet.{Packet}
use Rattle.tc_capture.specs.declared.packet.Contents.{Contents as DeclaredContents}
use Rattle.tc_capture.specs.declared.packet.Contents.TheVariants.{Route, Family, LinkType}
use Rattle.tc_capture.specs.declared.time.Time.{Time}
use Rattle.tc_capture.specs.Outcome.{Outcome}

pub record Captured : Type 0 where
  pub time : Option Time
  pub link : Link
  pub is_whole : Bool
  pub at : ℕ
  pub bytes : List ℕ

-- the abstract value of a packet
abbrev pub captured_of : Packet → Captured
captured_of p = record { time = p.time; link = p.link; is_whole = p.is_whole; at = p.at; bytes = p.bytes.now }

-- LINKTYPE_NETLINK is 253
abbrev pub link_of : ℕ → Link
link_of n = if n == 253 then Cooked else Other n

-- the contents of a packet: messages of route netlink, with the packet type of the cooked header if there is one;
-- messages of another netlink family; or a packet of another link type, with its number
pub data Contents : Type 0 where
  route : Option ℕ → List ℕ → Contents
  family : ℕ → Contents
  link_type : ℕ → Contents

-- its abstract value
abbrev pub contents_of : DeclaredContents → Contents
contents_of (Route packet_type messages) = route packet_type messages.now
contents_of (Family n) = family n
contents_of (LinkType n) = link_type n

-- a cooked header has sixteen bytes: the packet type at 0 and the netlink family at 14, both of two bytes and big-endian.
-- NETLINK_ROUTE is 0.
abbrev pub contents_in : Link → List ℕ → Outcome Contents
contents_in Plain bytes = Ok (route None bytes)
contents_in Cooked bytes =
    if nat_lt (length bytes) 16 then Err (Short 16 (length bytes)) else
    if big_number 2 (drop 14 bytes) == 0 then Ok (route (Some (big_number 2 bytes)) (drop 16 bytes)) else Ok (family (big_number 2 (drop 14 bytes)))
contents_in (Other n) bytes = Ok (link_type n)

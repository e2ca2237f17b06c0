use Rattle.std.proofs.Common.{refl}
use Rattle.std.specs.Net.Addr.{ipv4_octets, ipv6_octets}
use Rattle.tc_meaning.specs.Tree.{known, number, is_bytes}
use Rattle.tc_flower.proofs.Copies.{plain_copied}
use Rattle.tc_flower.proofs.filters.flower.options.copy.TcFilterFlowerOptionClone.clone.Goals as goal

pub returns-in-Mac : goal.returns-in-Mac
returns-in-Mac g c = record {
  cases = plain_copied _ _ (known c.parts-kind.result.0 (is_bytes c.in-Mac.mac)) refl _ _ (rw c.in-Mac.is at c.parts-kind.ensures.seen) c.of_mac.ensures;
}

pub returns-in-Ipv4 : goal.returns-in-Ipv4
returns-in-Ipv4 g c = record {
  cases = plain_copied _ _ (known c.parts-kind.result.0 (is_bytes (ipv4_octets c.in-Ipv4.ip))) refl _ _
      (rw c.in-Ipv4.is at c.parts-kind.ensures.seen) c.of_ipv4.ensures;
}

pub returns-in-Ipv6 : goal.returns-in-Ipv6
returns-in-Ipv6 g c = record {
  cases = plain_copied _ _ (known c.parts-kind.result.0 (is_bytes (ipv6_octets c.in-Ipv6.ip))) refl _ _
      (rw c.in-Ipv6.is at c.parts-kind.ensures.seen) c.of_ipv6.ensures;
}

pub returns-in-Labels : goal.returns-in-Labels
returns-in-Labels g c = record {
  cases = plain_copied _ _ (known c.parts-kind.result.0 (is_bytes c.in-Labels.labels)) refl _ _
      (rw c.in-Labels.is at c.parts-kind.ensures.seen) c.of_labels.ensures;
}

pub returns-in-U8 : goal.returns-in-U8
returns-in-U8 g c = record {
  cases = plain_copied _ _ (known c.parts-kind.result.0 (number c.in-U8.n)) refl _ _ (rw c.in-U8.is at c.parts-kind.ensures.seen) c.of_u8.ensures;
}

pub returns-in-U16 : goal.returns-in-U16
returns-in-U16 g c = record {
  cases = plain_copied _ _ (known c.parts-kind.result.0 (number c.in-U16.n)) refl _ _ (rw c.in-U16.is at c.parts-kind.ensures.seen) c.of_u16.ensures;
}

pub returns-in-U16Be : goal.returns-in-U16Be
returns-in-U16Be g c = record {
  cases = plain_copied _ _ (known c.parts-kind.result.0 (number c.in-U16Be.n)) refl _ _ (rw c.in-U16Be.is at c.parts-kind.ensures.seen) c.of_u16_be.ensures;
}

pub returns-in-U32 : goal.returns-in-U32
returns-in-U32 g c = record {
  cases = plain_copied _ _ (known c.parts-kind.result.0 (number c.in-U32.n)) refl _ _ (rw c.in-U32.is at c.parts-kind.ensures.seen) c.of_u32.ensures;
}

pub returns-in-U32Be : goal.returns-in-U32Be
returns-in-U32Be g c = record {
  cases = plain_copied _ _ (known c.parts-kind.result.0 (number c.in-U32Be.n)) refl _ _ (rw c.in-U32Be.is at c.parts-kind.ensures.seen) c.of_u32_be.ensures;
}

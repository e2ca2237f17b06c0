-- Flower's options follow from their abstract values.
use Rattle.std.proofs.Common.{◌≡◌, ℕ, List, [], ◌∷◌, Option, Some, None, refl, sym, ap, subst, ◌∙◌}
use Rattle.std.specs.Prelude.{◌==◌, if◌then◌else◌}
use Rattle.std.proofs.lemmas.Nat.{div-add-mod'}
use Rattle.std.specs.Net.Addr.{octets_of, segments_of}
use Rattle.std.specs.declared.net.ipv4_addr.Ipv4Addr.{Ipv4Addr}
use Rattle.std.specs.declared.net.ipv6_addr.Ipv6Addr.{Ipv6Addr}
use Rattle.tc_meaning.specs.Tree.{Attribute, known, number, is_bytes}
use Rattle.tc_values.specs.Forgets.{ForgetsNothing}
use Rattle.tc_values.proofs.Lists.{attributes_once}
use Rattle.tc_flower.specs.declared.filters.flower.options.TcFilterFlowerOption.{TcFilterFlowerOption}
use Rattle.tc_flower.specs.declared.filters.flower.options.TcFilterFlowerOption.TheVariants as option
use Rattle.tc_flower.specs.Flower.{flower_option, SameFlower}

-- the addresses of these octets
abbrev ipv4_of : List ℕ → Ipv4Addr
ipv4_of v = record { octets = v }

abbrev ipv6_of : List ℕ → Ipv6Addr
ipv6_of v = record { segments = segments_of v }

segments_again : (s : List ℕ) → segments_of (octets_of s) ≡ s
segments_again [] = refl
segments_again (x ∷ s) = rw (div-add-mod' x 256, segments_again s) refl

-- the variant of a type, applied to a value
abbrev made : {X Y : Type 0} → List (ℕ × (X → Y)) → ℕ → X → Option Y
made [] n x = None
made (v ∷ vs) n x = if n == v.0 then Some (v.1 x) else made vs n x

module _ {A : Type 0} where
  -- the variants with their types, by their values: numbers, bytes, addresses
  abbrev numbers : List (ℕ × (ℕ → TcFilterFlowerOption A))
  numbers =
      (1, option.ClassId) ∷ (8, option.EthType) ∷ (9, option.IpProto) ∷ (18, option.TcpSrc) ∷ (19, option.TcpDst)
      ∷ (20, option.UdpSrc) ∷ (21, option.UdpDst) ∷ (22, option.Flags) ∷ (23, option.VlanId) ∷ (24, option.VlanPrio)
      ∷ (25, option.VlanEthType) ∷ (26, option.EncKeyId) ∷ (35, option.TcpSrcMask) ∷ (36, option.TcpDstMask)
      ∷ (37, option.UdpSrcMask) ∷ (38, option.UdpDstMask) ∷ (39, option.SctpSrcMask) ∷ (40, option.SctpDstMask)
      ∷ (41, option.SctpSrc) ∷ (42, option.SctpDst) ∷ (43, option.EncKeyUdpSrcPort)
      ∷ (44, option.EncKeyUdpSrcPortMask) ∷ (45, option.EncKeyUdpDstPort) ∷ (46, option.EncKeyUdpDstPortMask)
      ∷ (47, option.KeyFlags) ∷ (48, option.KeyFlagsMask) ∷ (49, option.Icmpv4Code) ∷ (50, option.Icmpv4CodeMask)
      ∷ (51, option.Icmpv4Type) ∷ (52, option.Icmpv4TypeMask) ∷ (53, option.Icmpv6Code) ∷ (54, option.Icmpv6CodeMask)
      ∷ (55, option.Icmpv6Type) ∷ (56, option.Icmpv6TypeMask) ∷ (61, option.ArpOp) ∷ (62, option.ArpOpMask)
      ∷ (67, option.MplsTtl) ∷ (68, option.MplsBos) ∷ (69, option.MplsTc) ∷ (70, option.MplsLabel)
      ∷ (71, option.TcpFlags) ∷ (72, option.TcpFlagsMask) ∷ (73, option.IpTos) ∷ (74, option.IpTosMask)
      ∷ (75, option.IpTtl) ∷ (76, option.IpTtlMask) ∷ (77, option.CvlanId) ∷ (78, option.CvlanPrio)
      ∷ (79, option.CvlanEthType) ∷ (80, option.EncKeyIpTos) ∷ (81, option.EncKeyIpTosMask) ∷ (82, option.EncKeyIpTtl)
      ∷ (83, option.EncKeyIpTtlMask) ∷ (86, option.InHwCount) ∷ (87, option.PortSrcMin) ∷ (88, option.PortSrcMax)
      ∷ (89, option.PortDstMin) ∷ (90, option.PortDstMax) ∷ (91, option.CtState) ∷ (92, option.CtStateMask)
      ∷ (93, option.CtZone) ∷ (94, option.CtZoneMask) ∷ (95, option.CtMark) ∷ (96, option.CtMarkMask)
      ∷ (100, option.KeyHash) ∷ (101, option.KeyHashMask)
      ∷ []

  abbrev arrays : List (ℕ × (List ℕ → TcFilterFlowerOption A))
  arrays =
      (4, option.EthDst) ∷ (5, option.EthDstMask) ∷ (6, option.EthSrc) ∷ (7, option.EthSrcMask) ∷ (63, option.ArpSha)
      ∷ (64, option.ArpShaMask) ∷ (65, option.ArpTha) ∷ (66, option.ArpThaMask) ∷ (97, option.CtLabels)
      ∷ (98, option.CtLabelsMask)
      ∷ []

  abbrev ipv4 : List (ℕ × (Ipv4Addr → TcFilterFlowerOption A))
  ipv4 =
      (10, option.Ipv4Src) ∷ (11, option.Ipv4SrcMask) ∷ (12, option.Ipv4Dst) ∷ (13, option.Ipv4DstMask)
      ∷ (27, option.EncKeyIpv4Src) ∷ (28, option.EncKeyIpv4SrcMask) ∷ (29, option.EncKeyIpv4Dst)
      ∷ (30, option.EncKeyIpv4DstMask) ∷ (57, option.ArpSip) ∷ (58, option.ArpSipMask) ∷ (59, option.ArpTip)
      ∷ (60, option.ArpTipMask)
      ∷ []

  abbrev ipv6 : List (ℕ × (Ipv6Addr → TcFilterFlowerOption A))
  ipv6 =
      (14, option.Ipv6Src) ∷ (15, option.Ipv6SrcMask) ∷ (16, option.Ipv6Dst) ∷ (17, option.Ipv6DstMask)
      ∷ (31, option.EncKeyIpv6Src) ∷ (32, option.EncKeyIpv6SrcMask) ∷ (33, option.EncKeyIpv6Dst)
      ∷ (34, option.EncKeyIpv6DstMask)
      ∷ []

  abbrev first : Option (TcFilterFlowerOption A) → Option (TcFilterFlowerOption A) → Option (TcFilterFlowerOption A)
  first None other = other
  first (Some x) other = Some x

  -- the option of an abstract value; none for a text, a list, or a raw one
  abbrev option_of : Attribute → Option (TcFilterFlowerOption A)
  option_of (known n (number m)) = made numbers n m
  option_of (known n (is_bytes v)) = first (made arrays n v) (first (made ipv4 n (ipv4_of v)) (made ipv6 n (ipv6_of v)))
  option_of x = None

  abbrev IsAgain : TcFilterFlowerOption A → Option (TcFilterFlowerOption A) → Type 0
  IsAgain a None = Unit {0}
  IsAgain a (Some x) = x ≡ a

  again : (a : TcFilterFlowerOption A) → IsAgain a (option_of (flower_option a))
  again (option.InDev s) = tt
  again (option.Actions v) = tt
  again (option.MplsOpts v) = tt
  again (option.Other x) = tt
  again (option.Ipv6Src ip) = ap (λ s. option.Ipv6Src (record { segments = s })) (segments_again ip.segments)
  again (option.Ipv6SrcMask ip) = ap (λ s. option.Ipv6SrcMask (record { segments = s })) (segments_again ip.segments)
  again (option.Ipv6Dst ip) = ap (λ s. option.Ipv6Dst (record { segments = s })) (segments_again ip.segments)
  again (option.Ipv6DstMask ip) = ap (λ s. option.Ipv6DstMask (record { segments = s })) (segments_again ip.segments)
  again (option.EncKeyIpv6Src ip) = ap (λ s. option.EncKeyIpv6Src (record { segments = s })) (segments_again ip.segments)
  again (option.EncKeyIpv6SrcMask ip) = ap (λ s. option.EncKeyIpv6SrcMask (record { segments = s })) (segments_again ip.segments)
  again (option.EncKeyIpv6Dst ip) = ap (λ s. option.EncKeyIpv6Dst (record { segments = s })) (segments_again ip.segments)
  again (option.EncKeyIpv6DstMask ip) = ap (λ s. option.EncKeyIpv6DstMask (record { segments = s })) (segments_again ip.segments)
  again a = refl

  pub flower_forgets_nothing : ForgetsNothing flower_option (SameFlower {A = A})
  flower_forgets_nothing (option.InDev s) (option.InDev t) e = cc
  flower_forgets_nothing (option.Actions v) (option.Actions w) e = attributes_once cc
  flower_forgets_nothing (option.MplsOpts v) (option.MplsOpts w) e = attributes_once cc
  flower_forgets_nothing (option.Other x) (option.Other y) e = cc
  flower_forgets_nothing (option.InDev s) b e = absurd (cc e)
  flower_forgets_nothing (option.Actions v) b e = absurd (cc e)
  flower_forgets_nothing (option.MplsOpts v) b e = absurd (cc e)
  flower_forgets_nothing (option.Other x) b e = absurd (cc e)
  flower_forgets_nothing a b e = sym (again a) ∙ subst (IsAgain b) (ap option_of (sym e)) (again b)

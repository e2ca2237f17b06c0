-- The texts of IP addresses are in std's grammar, and each belongs to only one address.
use Rattle.std.proofs.Common.{◌≡◌, ℕ, zero, suc, ◌+◌, ◌*◌, ◌/◌, ◌%◌, ◌^◌, ◌<◌, false, List, [], ◌∷◌, ◌++◌, length, get_or, take, drop, refl, sym, ap, ap₂, ◌∙◌, subst, arith, inr, lt-ltb, take-append-drop}
use Rattle.std.specs.Prelude.{bytes_eq, codes, nat_lt}
use Rattle.std.proofs.lemmas.Bool.{and_parts, cond_both, false_from_ne_true, ltb-true}
use Rattle.std.proofs.lemmas.Slice.Eq.{bytes_eq-Decides}
use Rattle.std.specs.declared.net.ipv4_addr.Ipv4Addr.{Ipv4Addr}
use Rattle.std.specs.declared.net.ipv6_addr.Ipv6Addr.{Ipv6Addr}
use Rattle.std.specs.Net.Addr.{segments_of, octets_of, IsIpv4Mapped, IsIpv4Compatible}
use Rattle.std.specs.Net.Text as Net
use Rattle.std.specs.Net.Text.{compressed_text, longest_zero_run}
use Rattle.std.specs.Net.Grammar.{IsDotted, IsColonHex}
use Rattle.std.proofs.NetLemmas.Arrays.{eight_items, sixteen_items}
use Rattle.std.proofs.NetLemmas.Texts.{AllSegments, IsDotted-ipv4_text, IsColonHex-ipv6_text}
use Rattle.std.proofs.NetLemmas.Theorems.{IsIpv4Text_unique, IsIpv6Text_unique}
use Rattle.hex.specs.Hex.{IsBytes}
use Rattle.tc_texts.specs.Addresses.{ipv4_text, ends_in_ipv4, segments_text, ipv6_text}
use Rattle.tc_texts.specs.Reading.{IsOctets}

-- ---- IPv4

pub dotted : (text o : List ℕ) → IsOctets 4 o → text ≡ ipv4_text o → IsDotted text o
dotted text o h e = subst (λ (t : List ℕ). IsDotted t o) (sym e) (IsDotted-ipv4_text o h.0 h.1)

pub dotted_unique : (text a b : List ℕ) → IsDotted text a → IsDotted text b → a ≡ b
dotted_unique text a b ha hb =
    let x : Ipv4Addr = record { octets = a } in
    let y : Ipv4Addr = record { octets = b } in
    ap (λ (r : Ipv4Addr). r.octets) (IsIpv4Text_unique text x y ha hb)

pub ipv4_text-injective : (a b : List ℕ) → IsOctets 4 a → IsOctets 4 b → ipv4_text a ≡ ipv4_text b → a ≡ b
ipv4_text-injective a b ha hb e = dotted_unique (ipv4_text a) a b (dotted (ipv4_text a) a ha refl) (dotted (ipv4_text a) b hb e)

-- ---- IPv6

-- `::` and an IPv4 address: no head, and a tail of two segments
compatible_text : (g h : ℕ) → g < 2 ^ 16 → h < 2 ^ 16 → IsColonHex ((58 ∷ 58 ∷ []) ++ ipv4_text (octets_of (g ∷ h ∷ []))) (0 ∷ 0 ∷ 0 ∷ 0 ∷ 0 ∷ 0 ∷ g ∷ h ∷ [])
compatible_text g h high low =
    let o = octets_of (g ∷ h ∷ []) in
    let four : IsDotted (ipv4_text o) o = record {
      a = g / 256;
      b = g % 256;
      c = h / 256;
      d = h % 256;
      fit = omega arith;
      value = refl;
      spelled = refl;
    } in
    let first : g / 256 * 256 + g % 256 ≡ g = omega arith in
    let second : h / 256 * 256 + h % 256 ≡ h = omega arith in
    inr (record {
      head_text = [];
      tail_text = ipv4_text o;
      head = [];
      tail = g ∷ h ∷ [];
      spelled = refl;
      head_groups = refl;
      tail_groups = inr (_, o, refl, refl, four, rw (first, second) refl);
      room = omega arith;
      value = refl;
    })

IsColonHex-segments_text : (xs : List ℕ) → length xs ≡ 8 → AllSegments xs → IsColonHex (segments_text xs) xs
unfolding segments_text
IsColonHex-segments_text xs eight fits =
    cond_both _ _ _ (λ text. IsColonHex text xs)
    (λ compatible.
    let parts = and_parts (bytes_eq (take 6 xs) (0 ∷ 0 ∷ 0 ∷ 0 ∷ 0 ∷ 0 ∷ [])) (nat_lt 0 (get_or xs 6 0)) compatible in
    let tail : drop 6 xs ≡ get_or xs 6 0 ∷ get_or xs 7 0 ∷ [] = ap (λ t. drop 6 t) (eight_items xs eight) in
    let all : xs ≡ 0 ∷ 0 ∷ 0 ∷ 0 ∷ 0 ∷ 0 ∷ get_or xs 6 0 ∷ get_or xs 7 0 ∷ [] =
    sym (take-append-drop 6 xs) ∙ ap₂ ◌++◌ ((bytes_eq-Decides (take 6 xs) (0 ∷ 0 ∷ 0 ∷ 0 ∷ 0 ∷ 0 ∷ [])).0 parts.0) tail in
    rw tail (subst (IsColonHex _) (sym all) (compatible_text _ _ (fits 6) (fits 7))))
    (λ _. IsColonHex-ipv6_text xs eight fits)

AllSegments-segments_of : (o : List ℕ) → IsBytes o → AllSegments (segments_of o)
AllSegments-segments_of [] h k = omega arith
AllSegments-segments_of (a ∷ []) h k = omega arith
AllSegments-segments_of (a ∷ b ∷ rest) h k =
    let first : a < 256 = h 0 in
    let second : b < 256 = h 1 in
    let later = AllSegments-segments_of rest (λ j. h (suc (suc j))) in
    elim k as (λ j. get_or ((a * 256 + b) ∷ segments_of rest) j 0 < 2 ^ 16) [ zero ↦ omega arith | suc j ↦ later j ]

eight_segments : (o : List ℕ) → length o ≡ 16 → length (segments_of o) ≡ 8
eight_segments o h = ap (λ (t : List ℕ). length (segments_of t)) (sixteen_items o h)

octets_of-segments_of : (o : List ℕ) → length o % 2 ≡ 0 → IsBytes o → octets_of (segments_of o) ≡ o
octets_of-segments_of [] even h = refl
octets_of-segments_of (a ∷ []) even h = absurd (omega arith)
octets_of-segments_of (a ∷ b ∷ rest) even h =
    let first : a < 256 = h 0 in
    let second : b < 256 = h 1 in
    let high : (a * 256 + b) / 256 ≡ a = omega arith in
    let low : (a * 256 + b) % 256 ≡ b = omega arith in
    let later = octets_of-segments_of rest (omega arith) (λ j. h (suc (suc j))) in
    rw (high, low, later) refl

pub colon_hex : (text o : List ℕ) → IsOctets 16 o → text ≡ ipv6_text o → IsColonHex text (segments_of o)
colon_hex text o h e =
    subst (λ (t : List ℕ). IsColonHex t (segments_of o)) (sym e)
    (IsColonHex-segments_text (segments_of o) (eight_segments o h.0) (AllSegments-segments_of o h.1))

-- the octets that a text spells are unique
pub colon_hex_unique : (text segments o : List ℕ) → IsOctets 16 o → IsColonHex text segments → text ≡ ipv6_text o → octets_of segments ≡ o
colon_hex_unique text segments o h spelled e =
    let x : Ipv6Addr = record { segments = segments } in
    let y : Ipv6Addr = record { segments = segments_of o } in
    ap (λ (r : Ipv6Addr). octets_of r.segments) (IsIpv6Text_unique text x y spelled (colon_hex text o h e))
    ∙ octets_of-segments_of o (omega (arith, h.0)) h.1

pub ipv6_text-injective : (a b : List ℕ) → IsOctets 16 a → IsOctets 16 b → ipv6_text a ≡ ipv6_text b → a ≡ b
ipv6_text-injective a b ha hb e =
    sym (octets_of-segments_of a (omega (arith, ha.0)) ha.1)
    ∙ colon_hex_unique (ipv6_text a) (segments_of a) b hb (colon_hex (ipv6_text a) a ha refl) e

-- ---- the text, by the address's form

pub text_mapped : (s : List ℕ) → IsIpv4Mapped s → segments_text s ≡ codes "::ffff:" ++ ipv4_text (octets_of (drop 6 s))
unfolding segments_text Net.ipv6_text
text_mapped s mapped =
    let yes = (bytes_eq-Decides (take 6 s) (0 ∷ 0 ∷ 0 ∷ 0 ∷ 0 ∷ 0xffff ∷ [])).1 mapped in
    let no : bytes_eq (take 6 s) (0 ∷ 0 ∷ 0 ∷ 0 ∷ 0 ∷ 0 ∷ []) ≡ false =
    false_from_ne_true (bytes_eq (take 6 s) (0 ∷ 0 ∷ 0 ∷ 0 ∷ 0 ∷ 0 ∷ [])) (λ t.
    let e : 0 ≡ 0xffff = ap (λ (l : List ℕ). get_or l 5 0) (sym ((bytes_eq-Decides (take 6 s) (0 ∷ 0 ∷ 0 ∷ 0 ∷ 0 ∷ 0 ∷ [])).0 t) ∙ mapped) in
    omega (arith, e)) in
    rw (no, yes) refl

pub text_compatible : (s : List ℕ) → IsIpv4Compatible s → 0 < get_or s 6 0 → segments_text s ≡ codes "::" ++ ipv4_text (octets_of (drop 6 s))
unfolding segments_text
text_compatible s compatible some =
    let yes = (bytes_eq-Decides (take 6 s) (0 ∷ 0 ∷ 0 ∷ 0 ∷ 0 ∷ 0 ∷ [])).1 compatible in
    rw (yes, lt-ltb 0 (get_or s 6 0) some) refl

pub text_groups : (s : List ℕ) → ¬ (IsIpv4Mapped s) → (IsIpv4Compatible s → 0 < get_or s 6 0 → ⊥) → segments_text s ≡ compressed_text s (longest_zero_run s)
unfolding segments_text Net.ipv6_text Net.hex_groups_text
text_groups s other plain =
    let no : bytes_eq (take 6 s) (0 ∷ 0 ∷ 0 ∷ 0 ∷ 0 ∷ 0xffff ∷ []) ≡ false =
    false_from_ne_true (bytes_eq (take 6 s) (0 ∷ 0 ∷ 0 ∷ 0 ∷ 0 ∷ 0xffff ∷ [])) (λ t. other ((bytes_eq-Decides (take 6 s) (0 ∷ 0 ∷ 0 ∷ 0 ∷ 0 ∷ 0xffff ∷ [])).0 t)) in
    let none : ends_in_ipv4 s ≡ false =
    false_from_ne_true (ends_in_ipv4 s) (λ t.
    let parts = and_parts (bytes_eq (take 6 s) (0 ∷ 0 ∷ 0 ∷ 0 ∷ 0 ∷ 0 ∷ [])) (nat_lt 0 (get_or s 6 0)) t in
    plain ((bytes_eq-Decides (take 6 s) (0 ∷ 0 ∷ 0 ∷ 0 ∷ 0 ∷ 0 ∷ [])).0 parts.0) (ltb-true 0 (get_or s 6 0) parts.1)) in
    rw (none, no) refl

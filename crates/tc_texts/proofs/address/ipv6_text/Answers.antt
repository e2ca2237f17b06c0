use Rattle.std.proofs.Common.{◌<◌, get_or, sym, refl, inl, inr, lt-ltb, le-ltb, true≢false, arith, rules}
use Rattle.std.proofs.lemmas.Grind.{common_steps}
use Rattle.std.specs.Net.Addr.{IsIpv4Compatible}
use Rattle.tc_texts.proofs.Ipv6.{text_mapped, text_compatible, text_groups}
use Rattle.tc_texts.proofs.address.ipv6_text.Goals as goal
use Rattle.tc_texts.proofs.address.ipv6_text.Goals.{then-segments-gt0+in_default-to_ipv4, else-segments-gt0}

pub returns-in-Some : goal.returns-in-Some
returns-in-Some c =
    let form = text_mapped c.from_octets-address.result.segments (c.in-Some.ensures.found.0 refl) in
    rw (← c.from_octets-address.ensures, form) (first_of (search rules, grind (arith, common_steps)))

pub returns-in-Some-to_ipv4 : goal.returns-in-Some-to_ipv4
returns-in-Some-to_ipv4 c =
    let compatible : IsIpv4Compatible c.from_octets-address.result.segments = elim (c.in-Some-to_ipv4.ensures.found.0 refl) [
      | inl mapped ↦ absurd (true≢false (sym (c.in_default.ensures.found.1 mapped)))
      | inr compatible ↦ compatible
    ] in
    let some : 0 < get_or c.from_octets-address.result.segments 6 0 = rw (← c.segments-segments.ensures) c.if-segments-gt0.true in
    let form = text_compatible c.from_octets-address.result.segments compatible some in
    rw (← c.from_octets-address.ensures, form) (first_of (search rules, grind (arith, common_steps)))

pub returns-then-len-gt1 : goal.returns-then-len-gt1
returns-then-len-gt1 c =
    let form = text_groups c.from_octets-address.result.segments
    (λ mapped. true≢false (sym (c.in_default.ensures.found.1 mapped)))
    (λ compatible some. elim c.if-segments-gt0.branch [
      | then-segments-gt0+in_default-to_ipv4 w ↦ true≢false (sym (w.in_default-to_ipv4.ensures.found.1 (inr compatible)))
      | else-segments-gt0 w ↦ omega (arith, rw (← c.segments-segments.ensures) at some)
    ]) in
    rw (← c.from_octets-address.ensures, form, ← c.segments-segments.ensures, ← c.longest_zero_run-start.ensures.value, lt-ltb 1 c.longest_zero_run-start.result.1 c.if-len-gt1.true)
    (first_of (search rules, grind (arith, common_steps)))

pub returns-else-len-gt1 : goal.returns-else-len-gt1
returns-else-len-gt1 c =
    let form = text_groups c.from_octets-address.result.segments
    (λ mapped. true≢false (sym (c.in_default.ensures.found.1 mapped)))
    (λ compatible some. elim c.if-segments-gt0.branch [
      | then-segments-gt0+in_default-to_ipv4 w ↦ true≢false (sym (w.in_default-to_ipv4.ensures.found.1 (inr compatible)))
      | else-segments-gt0 w ↦ omega (arith, rw (← c.segments-segments.ensures) at some)
    ]) in
    rw (← c.from_octets-address.ensures, form, ← c.segments-segments.ensures, ← c.longest_zero_run-start.ensures.value, le-ltb 1 c.longest_zero_run-start.result.1 c.if-len-gt1.false)
    (first_of (search rules, grind (arith, common_steps)))

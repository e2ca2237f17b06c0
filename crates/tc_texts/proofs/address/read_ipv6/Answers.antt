use Rattle.std.proofs.Common.{◌∙◌, sym, ap, true≢false}
use Rattle.std.specs.Net.Addr.{segments_of}
use Rattle.tc_texts.specs.Addresses.{ipv6_text}
use Rattle.tc_texts.proofs.Ipv6.{colon_hex, colon_hex_unique}
use Rattle.tc_texts.proofs.address.read_ipv6.Goals as goal

pub returns-in-Err : goal.returns-in-Err
returns-in-Err c = λ o h e. c.in-Err.ensures (record { segments = segments_of o }) (colon_hex c.as_bytes.result.now o h (c.as_bytes.ensures.value ∙ e))

pub returns-else-is_same : goal.returns-else-is_same
returns-else-is_same c = λ o h e.
    let same = colon_hex_unique c.as_bytes.result.now c.in-Ok.address.segments o h c.in-Ok.ensures (c.as_bytes.ensures.value ∙ e) in
    true≢false (sym (c.is_same.ensures.1 (c.as_str.ensures.value ∙ c.ipv6_text.ensures ∙ ap ipv6_text (c.octets-octets.ensures ∙ same) ∙ sym e)) ∙ c.if-is_same.false)

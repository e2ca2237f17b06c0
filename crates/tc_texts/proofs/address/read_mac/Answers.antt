use Rattle.std.proofs.Common.{◌∙◌, sym, ap, true≢false}
use Rattle.tc_texts.specs.Addresses.{mac_text}
use Rattle.tc_texts.proofs.Mac.{mac_digits, ok_same}
use Rattle.tc_texts.proofs.address.read_mac.Goals as goal

pub returns-in-Err : goal.returns-in-Err
returns-in-Err c = λ o h e. cc (c.in-Err.ensures ∙ mac_digits c.as_bytes.result.now o h (c.as_bytes.ensures.value ∙ e))

pub returns-else-is_same : goal.returns-else-is_same
returns-else-is_same c = λ o h e.
    let same = ok_same c.in-Ok.octets o _ (sym c.in-Ok.ensures) (mac_digits c.as_bytes.result.now o h (c.as_bytes.ensures.value ∙ e)) in
    true≢false (sym (c.is_same.ensures.1 (c.as_str.ensures.value ∙ c.mac_text.ensures ∙ ap mac_text same ∙ sym e)) ∙ c.if-is_same.false)

use Rattle.std.proofs.Common.{◌≡◌, rules, ap, ◌∙◌, length}
use Rattle.std.proofs.lemmas.Result.{on_ok_weaker}
use Rattle.tc_texts.specs.Addresses.{mac_text}
use Rattle.forms_values.proofs.Sending.{mac_sent}
use Rattle.forms_values.proofs.values_shown.send_mac.Goals as goal

pub returns-in-Ok : goal.returns-in-Ok
returns-in-Ok g c =
    let whole : c.in-Ok.octets ≡ c.args.bytes.now = search rules in
    let long : length c.args.bytes.now ≡ 6 = c.in-Ok.ensures.1.long in
    let same = c.as_str.ensures.value ∙ c.mac_text.ensures ∙ ap mac_text whole in
    on_ok_weaker c.string.result (mac_sent c.args.bytes.now c.as_str.result.now _ _ long same) c.string.ensures

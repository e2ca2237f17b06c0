use Rattle.std.proofs.lemmas.Result.{on_ok_weaker}
use Rattle.forms_values.proofs.Sending.{bare_sent, bare_raw}
use Rattle.forms_values.proofs.values_shown.send_bare.Goals as goal

pub returns-in-Ok : goal.returns-in-Ok
returns-in-Ok g c =
    on_ok_weaker c.string.result (bare_sent c.args.bytes.now c.in-Ok.text.now _ _ c.in-Ok.ensures.cases.0 c.in-Ok.ensures.cases.1) c.string.ensures

pub returns-in-Err : goal.returns-in-Err
returns-in-Err g c = on_ok_weaker c.send_raw.result (bare_raw c.args.bytes.now _ _ c.in-Err.ensures.cases.0) c.send_raw.ensures

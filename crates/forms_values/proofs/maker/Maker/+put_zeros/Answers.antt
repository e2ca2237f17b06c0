use Rattle.std.proofs.Common.{ap, Some}
use Rattle.forms_values.proofs.Appending.{then_appended, appended_as, zeros_step}
use Rattle.forms_values.proofs.maker.Maker.+put_zeros.Goals as goal

pub returns-in-Ok : goal.returns-in-Ok
returns-in-Ok t c =
    let sum = c.in-Ok.ensures in
    let full = c.if-count-eq0.false in
    appended_as _ _ _ _ c.put_zeros.result (ap Some (zeros_step c.args.count full)) (then_appended _ _ _ _ _ c.put_zeros.result sum c.put_zeros.ensures)

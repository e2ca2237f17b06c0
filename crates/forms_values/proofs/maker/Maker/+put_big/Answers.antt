use Rattle.std.proofs.Common.{ap, Some}
use Rattle.forms_values.proofs.Appending.{then_appended, appended_as, be_step}
use Rattle.forms_values.proofs.maker.Maker.+put_big.Goals as goal

pub returns-in-Ok : goal.returns-in-Ok
returns-in-Ok t c =
    let sum = c.in-Ok.ensures in
    let full = c.if-width-eq0.false in
    appended_as _ _ _ _ c.put_byte.result (ap Some (be_step c.args.width c.args.number full)) (then_appended _ _ _ _ _ c.put_byte.result sum c.put_byte.ensures)

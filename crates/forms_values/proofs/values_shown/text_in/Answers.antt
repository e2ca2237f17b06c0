use Rattle.std.proofs.Common.{ap, ◌∙◌, Some}
use Rattle.forms_values.proofs.Leaves.{text_found, text_ends_so, text_not_utf8}
use Rattle.forms_values.proofs.values_shown.text_in.Goals as goal

pub returns-then-last-ne0 : goal.returns-then-last-ne0
returns-then-last-ne0 c = text_ends_so c.args.bytes.now c.in-Some.parts.1.now c.in-Some.parts.0.now c.in-Some.ensures.cases.0 c.if-last-ne0.true

pub returns-in-Ok : goal.returns-in-Ok
returns-in-Ok c =
    ap Some c.in-Ok.ensures.cases.0
    ∙ text_found c.args.bytes.now c.in-Some.parts.1.now c.in-Some.parts.0.now c.in-Some.ensures.cases.0 c.if-last-ne0.false c.in-Ok.ensures.cases.1

pub returns-in-Err : goal.returns-in-Err
returns-in-Err c = text_not_utf8 c.args.bytes.now c.in-Some.parts.1.now c.in-Some.parts.0.now c.in-Some.ensures.cases.0 c.in-Err.ensures.cases.0

use Rattle.std.proofs.Common.{ap, ◌∙◌, Some}
use Rattle.forms_attributes.proofs.OwnKinds.{kind_is, kind_is_none}
use Rattle.forms_attributes.proofs.attributes_shown.kind_text.Goals as goal

pub returns-in-Ok : goal.returns-in-Ok
returns-in-Ok c = ap Some c.in-Ok.ensures.cases.0 ∙ kind_is c.args.value.now c.strip_nul.result.now c.strip_nul.ensures c.in-Ok.ensures.cases.1

pub returns-in-Err : goal.returns-in-Err
returns-in-Err c = kind_is_none c.args.value.now c.strip_nul.result.now c.strip_nul.ensures c.in-Err.ensures.cases.0

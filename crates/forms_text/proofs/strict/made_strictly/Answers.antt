use Rattle.std.proofs.Common.{ap, ◌∙◌}
use Rattle.serde_json.specs.View.{view}
use Rattle.forms_text.specs.Strict.{json_of}
use Rattle.forms_text.specs.declared.error.StrictError.TheVariants.{Make}
use Rattle.forms_text.proofs.MadeAgain.{same_bytes, only_memory, unless_other}
use Rattle.forms_text.proofs.strict.made_strictly.Goals as goal

pub returns-in-Err-clause-found : goal.returns-in-Err-clause-found
returns-in-Err-clause-found g c = λ bytes h is.
    ap Make (only_memory (g.T.Tables.parts_of c.args.table) c.args.form bytes h (view c.args.json.now) is c.in-Err.e c.in-Err.ensures)

pub returns-in-Ok-check_shown-clause-found : goal.returns-in-Ok-check_shown-clause-found
returns-in-Ok-check_shown-clause-found g c = λ bytes h is.
    same_bytes (g.T.Tables.parts_of c.args.table) c.args.form bytes h (view c.args.json.now) is c.in-Ok.bytes.items c.in-Ok.ensures

pub returns-in-Err-check_shown-clause-found : goal.returns-in-Err-check_shown-clause-found
returns-in-Err-check_shown-clause-found g c = λ bytes h is.
    let table = g.T.Tables.parts_of c.args.table in
    let f = c.args.form in
    let same = same_bytes table f bytes h (view c.args.json.now) is c.in-Ok.bytes.items c.in-Ok.ensures in
    unless_other c.in-Err-check_shown.ensures.other (ap (json_of table f) (c.deref.ensures.value ∙ same) ∙ is)

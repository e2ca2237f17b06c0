use Rattle.std.proofs.Common.{ap, ◌∙◌}
use Rattle.std.specs.Prelude.{option_and_then}
use Rattle.forms_json.specs.Made.{made_of}
use Rattle.forms_text.specs.declared.error.TextError.TheVariants.{Read, Make}
use Rattle.forms_text.proofs.Texts.{same_made, only_memory}
use Rattle.forms_text.proofs.make.bytes_of_text.Goals as goal

pub returns-in-Ok-made-clause-shown : goal.returns-in-Ok-made-clause-shown
returns-in-Ok-made-clause-shown g c = λ bytes h utf8 is.
    let table = g.T.Tables.parts_of c.args.table in
    same_made table c.args.form bytes h c.args.text.now is c.in-Ok-made.bytes.items
    (ap (option_and_then (made_of table c.args.form)) c.in-Ok.ensures.read ∙ c.in-Ok-made.ensures)

pub returns-in-Ok-clause-shown : goal.returns-in-Ok-clause-shown
returns-in-Ok-clause-shown g c = λ bytes h utf8 is.
    let table = g.T.Tables.parts_of c.args.table in
    only_memory table c.args.form bytes h c.args.text.now is (Make c.in-Err-made.e) utf8
    (λ other. ap (option_and_then (made_of table c.args.form)) c.in-Ok.ensures.read ∙ c.in-Err-made.ensures other)

pub returns-clause-shown : goal.returns-clause-shown
returns-clause-shown g c = λ bytes h utf8 is.
    only_memory (g.T.Tables.parts_of c.args.table) c.args.form bytes h c.args.text.now is (Read c.in-Err.e) utf8 c.in-Err.ensures.refused

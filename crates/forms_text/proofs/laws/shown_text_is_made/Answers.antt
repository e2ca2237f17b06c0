use Rattle.std.proofs.Common.{ap, sym, ◌∙◌}
use Rattle.std.specs.Prelude.{unwrap_or}
use Rattle.nla_frames.proofs.Bytes.{IsBytes-slice}
use Rattle.forms_json.specs.Made.{made_of}
use Rattle.forms_text.proofs.Texts.{shown_made, shown_is_read, shown_once}
use Rattle.forms_text.proofs.laws.shown_text_is_made.Goals as goal

pub returns : goal.returns
returns g c =
    let bytes = IsBytes-slice c.args.bytes.now c.type_inv.bytes in
    let table = g.T.Tables.parts_of c.args.table in
    let f = c.args.form in
    let b = c.args.bytes.now in
    record {
      read = λ text is. shown_is_read table f b bytes text is;
      once = λ text is. shown_once table f b bytes text is;
      made = λ text json is e. ap (λ o. made_of table f (unwrap_or o json)) (sym e ∙ shown_is_read table f b bytes text is) ∙ shown_made table f b bytes;
    }

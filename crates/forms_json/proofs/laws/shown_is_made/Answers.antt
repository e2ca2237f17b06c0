use Rattle.std.specs.Prelude.{[]}
use Rattle.nla_frames.proofs.Bytes.{IsBytes-slice}
use Rattle.forms_json.specs.Made.{made_of}
use Rattle.forms_json.specs.Shown.{shown_of}
use Rattle.forms_values.specs.Widths.{deepest}
use Rattle.forms_json.proofs.Law.{shown_again, shown_read}
use Rattle.forms_json.proofs.laws.shown_is_made.Goals as goal

pub returns : goal.returns
unfolding shown_of made_of
returns g c =
    let bytes = IsBytes-slice c.args.bytes.now c.type_inv.bytes in
    record {
      again = shown_again (g.T.Tables.parts_of c.args.table) deepest [] c.args.form c.args.bytes.now bytes;
      read = shown_read (g.T.Tables.parts_of c.args.table) deepest [] c.args.form c.args.bytes.now bytes;
    }

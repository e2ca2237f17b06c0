use Rattle.std.specs.Prelude.{[]}
use Rattle.nla_frames.proofs.Bytes.{IsBytes-slice}
use Rattle.forms_json.specs.Shown.{shown_of}
use Rattle.forms_values.specs.Widths.{deepest}
use Rattle.forms_json.proofs.Law.{shown_injective}
use Rattle.forms_json.proofs.laws.shown_is_injective.Goals as goal

pub returns : goal.returns
unfolding shown_of
returns g c = λ e.
    shown_injective (g.T.Tables.parts_of c.args.table) deepest [] c.args.form c.args.one.now c.args.other.now (IsBytes-slice c.args.one.now c.type_inv.one)
    (IsBytes-slice c.args.other.now c.type_inv.other) e

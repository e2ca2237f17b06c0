use Rattle.std.proofs.Common.{◌≡◌, false, rules, sym, refl, ◌∙◌}
use Rattle.std.proofs.lemmas.Result.{err_from_is_err_and}
use Rattle.nla_frames.specs.Frame.{type_of}
use Rattle.nla_frames.specs.Buffer.{frame_of}
use Rattle.tc_canon.specs.Descriptor.{table}
use Rattle.tc_canon.specs.Tables.Statistics.{stats2}
use Rattle.tc_values.proofs.Lists.{list_read, list_refused}
use Rattle.tc_values.proofs.Unread.{rows_kept}
use Rattle.tc_canon.specs.Tables.Messages.{attributes}
use Rattle.tc_values.specs.Row.{reads_at}
use Rattle.tc_messages.proofs.attribute.TcAttributeParseableParametrized.parse_with_param.Goals as goal

pub returns-in_err-parse_list_with-in-7 : goal.returns-in_err-parse_list_with-in-7
returns-in_err-parse_list_with-in-7 g c =
    let p = err_from_is_err_and c.from_residual-in_err-parse_list_with-in-7.result c.from_residual-in_err-parse_list_with-in-7.ensures.1 in
    let seven = sym c.kind.ensures ∙ c.in-7.is in
    let fault = rw c.value-in-7.ensures.bytes at c.in_err-parse_list_with-in-7.ensures.exact in
    rw (p.1, p.2) (list_refused attributes 7 (table stats2) c.args.kind.now (frame_of c.args.buf.now) (rw seven refl) _ fault)

pub returns-in_ok-parse_list_with-in-7 : goal.returns-in_ok-parse_list_with-in-7
returns-in_ok-parse_list_with-in-7 g c =
    let seven = sym c.kind.ensures ∙ c.in-7.is in
    let list = rw c.value-in-7.ensures.bytes at c.in_ok-parse_list_with-in-7.ensures.exact in
    list_read attributes 7 (table stats2) c.args.kind.now (frame_of c.args.buf.now) (rw seven refl) _ list

pub returns-in_default : goal.returns-in_default
returns-in_default g c =
    let f = frame_of c.args.buf.now in
    let unread : reads_at attributes (type_of f.word) ≡ false = search rules in
    rw (rows_kept c.args.kind.now f attributes (type_of f.word) unread) c.read_other.ensures

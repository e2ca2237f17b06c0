use Rattle.std.proofs.Common.{refl, sym, ◌∙◌}
use Rattle.std.proofs.lemmas.Result.{err_from_is_err_and}
use Rattle.nla_frames.specs.Buffer.{frame_of}
use Rattle.tc_canon.specs.Tables.Options.{u32_options}
use Rattle.tc_meaning.specs.Content.{a_selector, selector_codec}
use Rattle.tc_options.proofs.Values.{value_read, value_refused}
use Rattle.tc_options.proofs.ActionLists.{actions_read, actions_refused}
use Rattle.tc_options.proofs.filters.cls_u32.TcFilterU32OptionParseable.parse.Goals as goal

pub returns-in_ok-parse-in-5 : goal.returns-in_ok-parse-in-5
returns-in_ok-parse-in-5 g c =
    let here = sym c.kind.ensures ∙ c.in-5.is in
    value_read u32_options 5 a_selector selector_codec refl (frame_of c.args.buf.now) here _ (rw c.value-value.ensures.bytes at c.in_ok-parse-in-5.ensures)

pub returns-in_err-parse-in-5 : goal.returns-in_err-parse-in-5
returns-in_err-parse-in-5 g c =
    let p = err_from_is_err_and c.from_residual-in_err-parse-in-5.result c.from_residual-in_err-parse-in-5.ensures.1 in
    let here = sym c.kind.ensures ∙ c.in-5.is in
    rw (p.1, p.2) (value_refused u32_options 5 a_selector selector_codec refl (frame_of c.args.buf.now) here _
    (rw c.value-value.ensures.bytes at c.in_err-parse-in-5.ensures))

pub returns-in_ok-parse_list-in-7 : goal.returns-in_ok-parse_list-in-7
returns-in_ok-parse_list-in-7 g c =
    let f = frame_of c.args.buf.now in
    let here = sym c.kind.ensures ∙ c.in-7.is in
    actions_read u32_options 7 refl f here _ (rw c.value-value.ensures.bytes at c.in_ok-parse_list-in-7.ensures.exact)

pub returns-in_err-parse_list-in-7 : goal.returns-in_err-parse_list-in-7
returns-in_err-parse_list-in-7 g c =
    let p = err_from_is_err_and c.from_residual-in_err-parse_list-in-7.result c.from_residual-in_err-parse_list-in-7.ensures.1 in
    let f = frame_of c.args.buf.now in
    let here = sym c.kind.ensures ∙ c.in-7.is in
    rw (p.1, p.2) (actions_refused u32_options 7 refl f here _ (rw c.value-value.ensures.bytes at c.in_err-parse_list-in-7.ensures.exact))

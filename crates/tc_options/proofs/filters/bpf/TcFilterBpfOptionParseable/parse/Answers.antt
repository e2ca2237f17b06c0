use Rattle.std.proofs.Common.{refl, sym, ◌∙◌}
use Rattle.std.proofs.lemmas.Result.{err_from_is_err_and}
use Rattle.nla_frames.specs.Buffer.{frame_of}
use Rattle.tc_canon.specs.Tables.Options.{bpf_options}
use Rattle.tc_meaning.specs.Content.{some_bytes, text_codec}
use Rattle.tc_options.proofs.Values.{value_read, value_refused}
use Rattle.tc_options.proofs.filters.bpf.TcFilterBpfOptionParseable.parse.Goals as goal

pub returns-in_ok-parse_string-in-7 : goal.returns-in_ok-parse_string-in-7
returns-in_ok-parse_string-in-7 g c =
    let here = sym c.kind.ensures ∙ c.in-7.is in
    value_read bpf_options 7 some_bytes text_codec refl (frame_of c.args.buf.now) here _ (rw c.value-value.ensures.bytes at c.in_ok-parse_string-in-7.ensures)

pub returns-in_err-parse_string-in-7 : goal.returns-in_err-parse_string-in-7
returns-in_err-parse_string-in-7 g c =
    let p = err_from_is_err_and c.from_residual-in_err-parse_string-in-7.result c.from_residual-in_err-parse_string-in-7.ensures.1 in
    let here = sym c.kind.ensures ∙ c.in-7.is in
    rw (p.1, p.2) (value_refused bpf_options 7 some_bytes text_codec refl (frame_of c.args.buf.now) here _
    (rw c.value-value.ensures.bytes at c.in_err-parse_string-in-7.ensures))

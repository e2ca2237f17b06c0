use Rattle.std.proofs.Common.{sym, ◌∙◌}
use Rattle.std.specs.Prelude.{codes}
use Rattle.nla_frames.specs.Buffer.{frame_of}
use Rattle.nla_frames.specs.Fault.{seen}
use Rattle.tc_canon.specs.Tables.Options.{option_kinds}
use Rattle.tc_values.proofs.OfKinds.{option_kept}
use Rattle.tc_options.specs.Options.{tc_option}
use Rattle.tc_options.proofs.KindLists.{one_by_name}
use Rattle.tc_options.proofs.UnknownKinds.{not_known}
use Rattle.tc_options.proofs.options.TcOptionParseableParametrized.parse_with_param.Goals as goal

pub returns-then-eq : goal.returns-then-eq
returns-then-eq g c =
    one_by_name (codes "fq_codel") c.args.kind.now (frame_of c.args.buf.now) (sym c.eq.ensures ∙ c.if-eq.true)
    (seen tc_option c.read.result) c.read.ensures

pub returns-then-eq-2 : goal.returns-then-eq-2
returns-then-eq-2 g c =
    one_by_name (codes "ingress") c.args.kind.now (frame_of c.args.buf.now) (sym c.eq-2.ensures ∙ c.if-eq-2.true)
    (seen tc_option c.read-then-eq-2.result) c.read-then-eq-2.ensures

pub returns-then-eq-3 : goal.returns-then-eq-3
returns-then-eq-3 g c =
    one_by_name (codes "flower") c.args.kind.now (frame_of c.args.buf.now) (sym c.eq-3.ensures ∙ c.if-eq-3.true)
    (seen tc_option c.read-then-eq-3.result) c.read-then-eq-3.ensures

pub returns-then-eq-4 : goal.returns-then-eq-4
returns-then-eq-4 g c =
    one_by_name (codes "u32") c.args.kind.now (frame_of c.args.buf.now) (sym c.eq-4.ensures ∙ c.if-eq-4.true)
    (seen tc_option c.read-then-eq-4.result) c.read-then-eq-4.ensures

pub returns-then-eq-5 : goal.returns-then-eq-5
returns-then-eq-5 g c =
    one_by_name (codes "matchall") c.args.kind.now (frame_of c.args.buf.now) (sym c.eq-5.ensures ∙ c.if-eq-5.true)
    (seen tc_option c.read-then-eq-5.result) c.read-then-eq-5.ensures

pub returns-then-eq-6 : goal.returns-then-eq-6
returns-then-eq-6 g c =
    one_by_name (codes "bpf") c.args.kind.now (frame_of c.args.buf.now) (sym c.eq-6.ensures ∙ c.if-eq-6.true)
    (seen tc_option c.read-then-eq-6.result) c.read-then-eq-6.ensures

pub returns : goal.returns
returns g c =
    let unknown =
    not_known c.args.kind.now (sym c.eq.ensures ∙ c.if-eq.false) (sym c.eq-2.ensures ∙ c.if-eq-2.false) (sym c.eq-3.ensures ∙ c.if-eq-3.false)
    (sym c.eq-4.ensures ∙ c.if-eq-4.false) (sym c.eq-5.ensures ∙ c.if-eq-5.false) (sym c.eq-6.ensures ∙ c.if-eq-6.false)
    in
    option_kept option_kinds c.args.kind.now (frame_of c.args.buf.now) _ unknown c.in_ok-parse.ensures

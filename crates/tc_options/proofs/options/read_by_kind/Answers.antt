use Rattle.std.proofs.Common.{refl, sym, ◌∙◌}
use Rattle.std.specs.Prelude.{codes}
use Rattle.nla_frames.specs.Buffer.{frame_of}
use Rattle.nla_frames.specs.Fault.{seen}
use Rattle.tc_options.specs.Options.{listed}
use Rattle.tc_options.proofs.KindLists.{by_name, by_frame}
use Rattle.tc_options.proofs.UnknownKinds.{not_known}
use Rattle.tc_options.proofs.options.read_by_kind.Goals as goal

pub returns-then-eq : goal.returns-then-eq
returns-then-eq g c =
    by_name (codes "fq_codel") c.args.kind.now (frame_of c.args.buf.now) (sym c.eq.ensures ∙ c.if-eq.true) refl
    (seen listed c.read_list_of.result) (rw c.value.ensures.bytes at c.read_list_of.ensures)

pub returns-then-eq-2 : goal.returns-then-eq-2
returns-then-eq-2 g c =
    by_name (codes "ingress") c.args.kind.now (frame_of c.args.buf.now) (sym c.eq-2.ensures ∙ c.if-eq-2.true) refl
    (seen listed c.read_list_of-then-eq-2.result) (rw c.value-then-eq-2.ensures.bytes at c.read_list_of-then-eq-2.ensures)

pub returns-then-eq-3 : goal.returns-then-eq-3
returns-then-eq-3 g c =
    by_name (codes "flower") c.args.kind.now (frame_of c.args.buf.now) (sym c.eq-3.ensures ∙ c.if-eq-3.true) refl
    (seen listed c.read_list_of-then-eq-3.result) (rw c.value-then-eq-3.ensures.bytes at c.read_list_of-then-eq-3.ensures)

pub returns-then-eq-4 : goal.returns-then-eq-4
returns-then-eq-4 g c =
    by_name (codes "u32") c.args.kind.now (frame_of c.args.buf.now) (sym c.eq-4.ensures ∙ c.if-eq-4.true) refl
    (seen listed c.read_list_of-then-eq-4.result) (rw c.value-then-eq-4.ensures.bytes at c.read_list_of-then-eq-4.ensures)

pub returns-then-eq-5 : goal.returns-then-eq-5
returns-then-eq-5 g c =
    by_name (codes "matchall") c.args.kind.now (frame_of c.args.buf.now) (sym c.eq-5.ensures ∙ c.if-eq-5.true) refl
    (seen listed c.read_list_of-then-eq-5.result) (rw c.value-then-eq-5.ensures.bytes at c.read_list_of-then-eq-5.ensures)

pub returns-then-eq-6 : goal.returns-then-eq-6
returns-then-eq-6 g c =
    by_name (codes "bpf") c.args.kind.now (frame_of c.args.buf.now) (sym c.eq-6.ensures ∙ c.if-eq-6.true) refl
    (seen listed c.read_list_of-then-eq-6.result) (rw c.value-then-eq-6.ensures.bytes at c.read_list_of-then-eq-6.ensures)

pub returns : goal.returns
returns g c =
    let unknown =
    not_known c.args.kind.now (sym c.eq.ensures ∙ c.if-eq.false) (sym c.eq-2.ensures ∙ c.if-eq-2.false) (sym c.eq-3.ensures ∙ c.if-eq-3.false)
    (sym c.eq-4.ensures ∙ c.if-eq-4.false) (sym c.eq-5.ensures ∙ c.if-eq-5.false) (sym c.eq-6.ensures ∙ c.if-eq-6.false)
    in
    rw (c.in_ok-push.ensures.items, c.new-options.ensures.items) (by_frame c.args.kind.now (frame_of c.args.buf.now) _ unknown c.in_ok-parse.ensures)

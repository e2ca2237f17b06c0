use Rattle.std.proofs.Common.{List, subst, sym}
use Rattle.tc_meaning.specs.Whole.{tc_words}
use Rattle.tc_laws.specs.Norm.{norm_tc}
use Rattle.tc_laws.specs.Rewriting.{Rewrites, SettlesIn}
use Rattle.tc_wire.proofs.Rewrites.{refuted}
use Rattle.tc_wire.proofs.rewriting.settle_tc.Goals as goal

pub returns-then-is_canonical_tc-clause-settled : goal.returns-then-is_canonical_tc-clause-settled
returns-then-is_canonical_tc-clause-settled g c =
    let canonical = c.is_canonical_tc.ensures.0 c.if-is_canonical_tc.true in
    let m = c.tc_message.ensures.canonical canonical in
    let here = c.tc_rewriting.ensures.at_once m.0 m.1 m.2 canonical in
    record {
      message = m.0;
      reads = m.1;
      settles = subst (λ (b : List _). SettlesIn tc_words 0 c.args.bytes.now b (norm_tc m.0)) (sym c.in_ok-from_slice.ensures.items) here;
    }

pub returns-clause-settled : goal.returns-clause-settled
returns-clause-settled g c =
    let not = refuted c.is_canonical_tc.result c.is_canonical_tc.ensures c.if-is_canonical_tc.false in
    let w = c.in_ok-rewrite_tc.ensures.written in
    let there = c.tc_rewriting.ensures.settles w.message w.reads w.fits not in
    let once = subst (λ (b : List _). Rewrites tc_words b there.0) there.1.reached.1 there.1.reached.2 in
    record {
      message = w.message;
      reads = w.reads;
      settles =
          subst (λ (b : List _). SettlesIn tc_words 1 c.args.bytes.now b (norm_tc w.message)) (c.tc_rewriting.ensures.one_way there.0 _ once w) there.1;
    }

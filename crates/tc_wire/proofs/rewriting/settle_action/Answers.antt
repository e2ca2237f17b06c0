use Rattle.std.proofs.Common.{List, subst, sym, inr}
use Rattle.tc_meaning.specs.Whole.{action_words}
use Rattle.tc_laws.specs.Norm.{norm_act}
use Rattle.tc_laws.specs.Rewriting.{SettlesIn}
use Rattle.tc_wire.proofs.Rewrites.{refuted, settles_trimmed, counted}
use Rattle.tc_wire.proofs.rewriting.settle_action.Goals as goal

pub returns-then-is_canonical_action-clause-settled : goal.returns-then-is_canonical_action-clause-settled
returns-then-is_canonical_action-clause-settled g c =
    let canonical = c.is_canonical_action.ensures.0 c.if-is_canonical_action.true in
    let m = c.action_message.ensures.canonical canonical in
    let here = c.action_rewriting.ensures.at_once m.0 m.1 m.2 canonical in
    record {
      message = m.0;
      reads = m.1;
      settles = subst (λ (b : List _). SettlesIn action_words 0 c.args.bytes.now b (norm_act m.0)) (sym c.in_ok-copy.ensures.items) here;
    }

pub returns-clause-settled : goal.returns-clause-settled
returns-clause-settled g c =
    let t = c.in_ok-settled.ensures.trimmed in
    let not = refuted c.is_canonical_action.result c.is_canonical_action.ensures c.if-is_canonical_action.false in
    let laws = c.action_rewriting.ensures in
    let typed = laws.norm_typed t.message (c.action_message.ensures.typed t.message t.reads) in
    let fits = laws.norm_fits t.message t.fits in
    let back = (c.action_message.ensures.back (norm_act t.message) typed fits).1 (laws.norm_settled t.message t.reads) in
    let reads = subst (λ (b : List _). action_words.Reads b (norm_act t.message)) (sym t.is) back in
    let canonical = subst action_words.Canonical (sym t.is) (laws.norm_canonical t.message t.reads t.fits) in
    let twice = (rw c.deref.ensures.value at c.action_rewriting-2.ensures).canonical (norm_act t.message) reads fits canonical in
    settles_trimmed c.args.bytes.now c.in_ok-settled.settled.items c.in_ok-settled.nuls t (laws.settles t.message t.reads t.fits not)
    (rw c.deref-2.ensures.value at c.action_same_norm.ensures)
    reads fits canonical twice

pub returns-clause-count : goal.returns-clause-count
returns-clause-count g c = λ m reads.
    let not = refuted c.is_canonical_action.result c.is_canonical_action.ensures c.if-is_canonical_action.false in
    inr (
      not,
      counted c.args.bytes.now c.in_ok-settled.settled.items c.in_ok-settled.nuls c.in_ok-settled.ensures.trimmed c.action_message.ensures m reads,
    )

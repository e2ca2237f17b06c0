use Rattle.std.proofs.Common.{arith, rules, eq-eqb, ne_eqb}
use Rattle.std.proofs.lemmas.Grind.{common_steps}
use Rattle.tc_texts.specs.Handle.{handle_text}
use Rattle.tc_texts.proofs.handle.handle_text.Goals as goal

pub returns-then-handle-eq0 : goal.returns-then-handle-eq0
unfolding handle_text
returns-then-handle-eq0 c = rw (eq-eqb c.args.handle 0 c.if-handle-eq0.true) (first_of (search rules, grind (arith, common_steps)))

pub returns-then-handle-eq-ROOT : goal.returns-then-handle-eq-ROOT
unfolding handle_text
returns-then-handle-eq-ROOT c =
    rw (ne_eqb c.args.handle 0 c.if-handle-eq0.false, eq-eqb c.args.handle 0xffffffff c.if-handle-eq-ROOT.true)
    (first_of (search rules, grind (arith, common_steps)))

pub returns-else-handle-eq-ROOT : goal.returns-else-handle-eq-ROOT
unfolding handle_text
returns-else-handle-eq-ROOT c =
    rw (ne_eqb c.args.handle 0 c.if-handle-eq0.false, ne_eqb c.args.handle 0xffffffff c.if-handle-eq-ROOT.false)
    (first_of (search rules, grind (arith, common_steps)))

use Rattle.std.proofs.lemmas.Result.{IfOk-weaker, IfErr-weaker}
use Rattle.tc_meaning.specs.Whole.{tc_words}
use Rattle.tc_wire.proofs.Rewrites.{rewritten, refused}
use Rattle.tc_wire.proofs.rewriting.rewrite_tc.Goals as goal

pub returns-clause-written : goal.returns-clause-written
returns-clause-written g c =
    IfOk-weaker c.rewrite.result _ _ (λ w. rewritten tc_words c.args.bytes.now c.tc_message.ensures w.items) c.rewrite.ensures.written

pub returns-clause-refused : goal.returns-clause-refused
returns-clause-refused g c = IfErr-weaker c.rewrite.result _ _ (refused tc_words c.args.bytes.now c.tc_message.ensures) c.rewrite.ensures.refused

use Rattle.std.proofs.Common.{arith, ap, length, sym, ◌∙◌}
use Rattle.std.proofs.lemmas.Bool.{eqb-true}
use Rattle.std.proofs.lemmas.List.{nil_from_length}
use Rattle.nla_frames.proofs.Items.{some_bytes}
use Rattle.tc_index.specs.Views.{outer_of}
use Rattle.tc_index.proofs.Walks.{leaves}
use Rattle.tc_index.proofs.attributes.Attributes.leave.Goals as goal

pub loop-self-preserved : goal.loop-self-preserved
loop-self-preserved c =
    leaves (outer_of c.loop-self.self) c.loop-self.self.depth c.loop-self.self.level c.outer-level.result
    (nil_from_length _ (eqb-true _ _ (sym c.is_empty.ensures ∙ c.loop-self-test.true))) c.if-self-eq0.false c.loop-self.self.deep c.outer-level.ensures
    ∙ c.loop-self.invariant

pub returns-clause-all : goal.returns-clause-all
returns-clause-all c none = absurd (omega (arith, some_bytes _ _ c.is_empty.ensures c.loop-self-test.false, ap length none))

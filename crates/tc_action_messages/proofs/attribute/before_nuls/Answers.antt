use Rattle.std.proofs.Common.{◌∙◌, length, ap, arith}
use Rattle.tc_laws.specs.Loose.{without_nuls}
use Rattle.tc_laws.proofs.TrailingNuls.{without-strip}
use Rattle.tc_action_messages.proofs.Nuls.{without-same}
use Rattle.tc_action_messages.proofs.attribute.before_nuls.Goals as goal

pub loop-less-preserved : goal.loop-less-preserved
loop-less-preserved c =
    let before = c.loop-less.invariant in
    (c.strip_nul-less-in-loop-less.ensures, ap without_nuls before.0 ∙ without-strip c.loop-less.kept.now ∙ before.1)

pub returns : goal.returns
returns c =
    let before = c.loop-less.invariant in
    without-same c.loop-less.kept.now (omega (arith, ap length before.0, c.loop-less-test.false)) ∙ before.1

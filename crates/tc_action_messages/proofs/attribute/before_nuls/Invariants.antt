use Rattle.std.proofs.Common.{◌≡◌, length}
use Rattle.nla_frames.specs.Value.{strip}
use Rattle.tc_laws.specs.Loose.{without_nuls}
use Rattle.tc_action_messages.proofs.attribute.before_nuls.Given as goal

abbrev pub invariant-loop-less : goal.invariant-loop-less
invariant-loop-less l = (l.less ≡ strip l.kept) × (without_nuls l.kept ≡ without_nuls l.bytes)

abbrev pub decreases-loop-less : goal.decreases-loop-less
decreases-loop-less l = length l.kept

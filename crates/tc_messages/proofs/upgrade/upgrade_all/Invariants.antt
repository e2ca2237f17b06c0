use Rattle.std.proofs.Common.{map}
use Rattle.tc_messages.specs.Attribute.{tc_attribute}
use Rattle.tc_messages.proofs.Upgrades.{UpgradedSoFar}
use Rattle.tc_messages.proofs.upgrade.upgrade_all.Given as goal

abbrev pub invariant-loop-i : goal.invariant-loop-i
invariant-loop-i g l = UpgradedSoFar (map tc_attribute l.initial.list) (map tc_attribute l.list) l.i l.is_known

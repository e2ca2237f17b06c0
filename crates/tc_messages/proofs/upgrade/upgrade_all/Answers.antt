use Rattle.std.proofs.Common.{map, arith}
use Rattle.tc_messages.specs.Attribute.{tc_attribute}
use Rattle.tc_messages.proofs.Upgrades.{goes_on}
use Rattle.tc_messages.proofs.upgrade.upgrade_all.Goals as goal

pub loop-i-preserved : goal.loop-i-preserved
loop-i-preserved g c =
    goes_on tc_attribute c.index-list-i.result c.upgrade_one-is_known.new.attribute
    (map tc_attribute c.args.list.now) c.loop-i.list c.loop-i.i _ _ c.loop-i.invariant (omega arith)
    c.upgrade_one-is_known.ensures.upgraded c.upgrade_one-is_known.ensures.known

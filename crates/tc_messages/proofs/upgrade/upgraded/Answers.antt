use Rattle.std.proofs.Common.{map, sym, subst, Bool}
use Rattle.tc_options.specs.Options.{tc_option}
use Rattle.tc_messages.specs.Attribute.{tc_attribute}
use Rattle.tc_messages.specs.Upgrade.{UpgradesAs, options_of}
use Rattle.tc_messages.proofs.Upgrades.{stays_if_known}
use Rattle.tc_messages.proofs.upgrade.upgraded.Goals as goal

pub returns-then-is_known : goal.returns-then-is_known
returns-then-is_known g c = rw c.in-Options.is (stays_if_known c.args.is_known (options_of (map tc_option c.in-Options.options.items)) c.if-is_known.true)

pub returns-else-is_known : goal.returns-else-is_known
returns-else-is_known g c =
    rw c.in-Options.is (subst (λ (b : Bool). UpgradesAs b (options_of (map tc_option c.in-Options.options.items)) (tc_attribute c.unknown_options.result))
    (sym c.if-is_known.false) c.unknown_options.ensures)

use Rattle.std.proofs.Common.{arith, ◌∙◌}
use Rattle.tc_options.specs.Options.{tc_option}
use Rattle.tc_messages.proofs.Upgrades.{lone_first, none_alone}
use Rattle.tc_messages.proofs.upgrade.is_lone_option.Goals as goal

pub returns-in-len1 : goal.returns-in-len1
returns-in-len1 g c = c.is_raw_option.ensures
    ∙ lone_first tc_option c.args.options.now c.option-item.result (omega (arith, c.in-len1.len_at_least, c.in-len1.len_below)) c.option-item.is

pub returns-in_default : goal.returns-in_default
returns-in_default g c = none_alone tc_option c.args.options.now (λ one. omega (arith, one, c.in_default.len_below))

pub returns-in_default-2 : goal.returns-in_default-2
returns-in_default-2 g c = none_alone tc_option c.args.options.now (λ one. omega (arith, one, c.in_default.len_at_least))

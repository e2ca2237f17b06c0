use Rattle.std.proofs.Common.{◌∙◌}
use Rattle.tc_meaning.specs.Equal.{same_each}
use Rattle.tc_actions.specs.Stats2.{tc_stats2}
use Rattle.tc_options.specs.Options.{tc_option}
use Rattle.tc_messages.proofs.attribute.TcAttributePartialEq.eq.Goals as goal

pub returns-in-Options-Options : goal.returns-in-Options-Options
returns-in-Options-Options g c =
    let pair = c.in-Options-Options in
    rw (pair.is-0, pair.is-1) (c.eq-in-Options-Options.ensures ∙ same_each tc_option pair.one.items pair.another.items)

pub returns-in-Stats2-Stats2 : goal.returns-in-Stats2-Stats2
returns-in-Stats2-Stats2 g c =
    let pair = c.in-Stats2-Stats2 in
    rw (pair.is-0, pair.is-1) (c.eq-in-Stats2-Stats2.ensures ∙ same_each tc_stats2 pair.one.items pair.another.items)

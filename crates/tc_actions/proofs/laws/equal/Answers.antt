use Rattle.tc_meaning.specs.Equal.{attribute_decides, content_decides}
use Rattle.tc_actions.specs.Stats2.{tc_stats2}
use Rattle.tc_actions.specs.Xstats.{tc_xstats}
use Rattle.tc_actions.specs.FqCodelXstats.{fq_codel_xstats}
use Rattle.tc_actions.specs.Mirror.{mirror_option}
use Rattle.tc_actions.specs.Nat.{nat_option}
use Rattle.tc_actions.specs.TunnelKey.{tunnel_key_option}
use Rattle.tc_actions.specs.ActionOption.{action_option}
use Rattle.tc_actions.specs.ActionAttribute.{action_attribute}
use Rattle.tc_actions.specs.Action.{tc_action}
use Rattle.tc_actions.proofs.laws.equal.Goals as goal

pub returns-clause-several : goal.returns-clause-several
returns-clause-several g c = λ a b. attribute_decides (tc_stats2 a) (tc_stats2 b)

pub returns-clause-own : goal.returns-clause-own
returns-clause-own g c = λ a b. content_decides (tc_xstats a) (tc_xstats b)

pub returns-clause-of_fq_codel : goal.returns-clause-of_fq_codel
returns-clause-of_fq_codel g c = λ a b. content_decides (fq_codel_xstats a) (fq_codel_xstats b)

pub returns-clause-mirror : goal.returns-clause-mirror
returns-clause-mirror g c = λ a b. attribute_decides (mirror_option a) (mirror_option b)

pub returns-clause-nat : goal.returns-clause-nat
returns-clause-nat g c = λ a b. attribute_decides (nat_option a) (nat_option b)

pub returns-clause-tunnel_key : goal.returns-clause-tunnel_key
returns-clause-tunnel_key g c = λ a b. attribute_decides (tunnel_key_option a) (tunnel_key_option b)

pub returns-clause-option : goal.returns-clause-option
returns-clause-option g c = λ a b. attribute_decides (action_option a) (action_option b)

pub returns-clause-attribute : goal.returns-clause-attribute
returns-clause-attribute g c = λ a b. attribute_decides (action_attribute a) (action_attribute b)

pub returns-clause-action : goal.returns-clause-action
returns-clause-action g c = λ a b. attribute_decides (tc_action a) (tc_action b)

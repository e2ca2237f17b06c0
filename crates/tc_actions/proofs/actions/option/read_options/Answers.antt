use Rattle.std.proofs.Common.{sym, ◌∙◌, map}
use Rattle.std.specs.Prelude.{codes}
use Rattle.nla_frames.specs.Fault.{seen}
use Rattle.tc_actions.specs.ActionOption.{action_option}
use Rattle.tc_actions.proofs.OptionLists.{options_by_name}
use Rattle.tc_actions.proofs.actions.option.read_options.Goals as goal

pub returns-then-eq : goal.returns-then-eq
returns-then-eq g c =
    options_by_name (codes "mirred") c.args.kind.now (sym c.eq.ensures ∙ c.if-eq.true) c.args.bytes.now (seen (λ v. map action_option v.items) c.parse_list_by.result)
    c.parse_list_by.ensures.exact

pub returns-then-eq-2 : goal.returns-then-eq-2
returns-then-eq-2 g c =
    options_by_name (codes "nat") c.args.kind.now (sym c.eq-2.ensures ∙ c.if-eq-2.true) c.args.bytes.now (seen (λ v. map action_option v.items) c.parse_list_by-then-eq-2.result)
    c.parse_list_by-then-eq-2.ensures.exact

pub returns-then-eq-3 : goal.returns-then-eq-3
returns-then-eq-3 g c =
    options_by_name (codes "tunnel_key") c.args.kind.now (sym c.eq-3.ensures ∙ c.if-eq-3.true) c.args.bytes.now (seen (λ v. map action_option v.items) c.parse_list_by-then-eq-3.result)
    c.parse_list_by-then-eq-3.ensures.exact

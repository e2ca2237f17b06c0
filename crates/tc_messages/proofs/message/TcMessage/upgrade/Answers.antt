use Rattle.std.proofs.Common.{ap, subst, sym, ◌∙◌}
use Rattle.tc_meaning.specs.Whole.{ReadsTc, FitsTc}
use Rattle.tc_laws.specs.FirstVersion.{upgrade}
use Rattle.tc_laws.proofs.FirstVersionLaws.{tc1-upgraded}
use Rattle.tc_messages.specs.Message.{tc_message}
use Rattle.tc_messages.proofs.Upgrades.{with_body}
use Rattle.tc_messages.proofs.message.TcMessage.upgrade.Goals as goal

pub returns-clause-value : goal.returns-clause-value
returns-clause-value g c = ap (with_body (tc_message c.args.self).header) c.upgraded_list-attributes.ensures

pub returns-clause-upgraded : goal.returns-clause-upgraded
returns-clause-upgraded g c = λ bytes are_bytes reads.
    subst (ReadsTc bytes) (sym (returns-clause-value g c)) (tc1-upgraded bytes are_bytes (tc_message c.args.self) reads)

pub returns-clause-twice : goal.returns-clause-twice
returns-clause-twice g c =
    let value = returns-clause-value g c in
    ap upgrade value ∙ c.upgrading.ensures.twice (tc_message c.args.self) ∙ sym value

pub returns-clause-fits : goal.returns-clause-fits
returns-clause-fits g c = λ fits. subst FitsTc (sym (returns-clause-value g c)) (c.upgrading.ensures.fits (tc_message c.args.self) fits)

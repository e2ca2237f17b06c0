use Rattle.std.proofs.Common.{List, false, map, sym, ap, subst, ◌∙◌}
use Rattle.tc_meaning.specs.Tree.{Attribute, kept}
use Rattle.nla_frames.specs.DefaultNla.{kept_frame}
use Rattle.tc_options.specs.Options.{tc_option}
use Rattle.tc_messages.specs.Upgrade.{UpgradesAs, options_of}
use Rattle.tc_messages.proofs.Upgrades.{stays_unless_lone, lone_popped, raw_upgraded, raw_unread}
use Rattle.tc_messages.proofs.upgrade.unknown_options.Goals as goal

pub returns-then-not-is_lone_option : goal.returns-then-not-is_lone_option
returns-then-not-is_lone_option g c =
    let lone = rw c.deref.ensures.value at c.is_lone_option.ensures in
    stays_unless_lone (map tc_option c.args.options.items) (sym lone ∙ c.if-not-is_lone_option.true)

pub returns-in-Some-unread : goal.returns-in-Some-unread
returns-in-Some-unread g c =
    let lone = rw c.deref.ensures.value at c.is_lone_option.ensures in
    let last = rw c.in-Some.ensures.items at (sym lone ∙ c.if-not-is_lone_option.false) in
    let one = lone_popped tc_option c.pop.new.self.items c.in-Some.option last in
    let upgraded = raw_upgraded (tc_option c.in-Some.option) (kept_frame c.in-Some-unread.nla).word
    (kept_frame c.in-Some-unread.nla).value c.in-Some-unread.ensures one.1 in
    subst (λ (xs : List Attribute). UpgradesAs false (options_of xs) (kept 2 (kept_frame c.in-Some-unread.nla).word (kept_frame c.in-Some-unread.nla).value))
    (sym (ap (map tc_option) c.in-Some.ensures.items ∙ one.0)) upgraded

pub returns-in-None-unread : goal.returns-in-None-unread
returns-in-None-unread g c =
    let lone = rw c.deref.ensures.value at c.is_lone_option.ensures in
    let last = rw c.in-Some.ensures.items at (sym lone ∙ c.if-not-is_lone_option.false) in
    let one = lone_popped tc_option c.pop.new.self.items c.in-Some.option last in
    absurd (raw_unread (tc_option c.in-Some.option) one.1 c.in-None-unread.ensures)

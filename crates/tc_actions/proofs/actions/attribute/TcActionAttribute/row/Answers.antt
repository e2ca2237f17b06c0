use Rattle.std.proofs.Common.{refl, rules}
use Rattle.tc_actions.proofs.actions.attribute.TcActionAttribute.row.Goals as goal

pub returns-in-Options-clause-seen : goal.returns-in-Options-clause-seen
returns-in-Options-clause-seen g c = rw (c.in-Options.is, c.deref.ensures.value) refl

pub returns-in-Stats-clause-seen : goal.returns-in-Stats-clause-seen
returns-in-Stats-clause-seen g c = rw (c.in-Stats.is, c.deref-in-Stats.ensures.value) refl

pub returns-in-Cookie-clause-seen : goal.returns-in-Cookie-clause-seen
returns-in-Cookie-clause-seen g c = rw (c.in-Cookie.is, c.deref-in-Cookie.ensures.value) refl

pub returns-in-Options-clause-row : goal.returns-in-Options-clause-row
returns-in-Options-clause-row g c = search rules

pub returns-in-Stats-clause-row : goal.returns-in-Stats-clause-row
returns-in-Stats-clause-row g c = search rules

use Rattle.std.proofs.Common.{refl, rules}
use Rattle.tc_options.proofs.filters.cls_u32.TcFilterU32Option.row.Goals as goal

pub returns-in-Selector-clause-seen : goal.returns-in-Selector-clause-seen
returns-in-Selector-clause-seen g c = rw c.in-Selector.is refl

pub returns-in-Police-clause-seen : goal.returns-in-Police-clause-seen
returns-in-Police-clause-seen g c = rw (c.in-Police.is, c.deref.ensures.value) refl

pub returns-in-Action-clause-seen : goal.returns-in-Action-clause-seen
returns-in-Action-clause-seen g c = rw (c.in-Action.is, c.deref-in-Action.ensures.value) refl

pub returns-in-Indev-clause-seen : goal.returns-in-Indev-clause-seen
returns-in-Indev-clause-seen g c = rw (c.in-Indev.is, c.deref-in-Indev.ensures.value) refl

pub returns-in-Pnct-clause-seen : goal.returns-in-Pnct-clause-seen
returns-in-Pnct-clause-seen g c = rw (c.in-Pnct.is, c.deref-in-Pnct.ensures.value) refl

pub returns-in-Mark-clause-seen : goal.returns-in-Mark-clause-seen
returns-in-Mark-clause-seen g c = rw (c.in-Mark.is, c.deref-in-Mark.ensures.value) refl

pub returns-in-Action-clause-row : goal.returns-in-Action-clause-row
returns-in-Action-clause-row g c = search rules

pub returns-in-Selector-clause-row : goal.returns-in-Selector-clause-row
returns-in-Selector-clause-row g c = search rules

use Rattle.std.proofs.Common.{◌<◌, ◌≤◌, length, Some, sym, ap, ◌∙◌, arith}
use Rattle.tc_capture.specs.Entries.{entry_end}
use Rattle.tc_capture.proofs.EntrySteps.{entry_in_none, entry_in_end, entry_in_cut, entry_in_front, entry_in_later}
use Rattle.tc_capture.proofs.entries.entry_in.Goals as goal

pub returns-then-found-eq0 : goal.returns-then-found-eq0
returns-then-found-eq0 c =
    sym (entry_in_end _ _ _ c.loop-rest-test.true (sym c.type_at-found.ensures ∙ c.if-found-eq0.true)) ∙ c.loop-rest.invariant

pub returns-then-rest-entry_end : goal.returns-then-rest-entry_end
returns-then-rest-entry_end c =
    let cut : length c.loop-rest.rest.now < entry_end c.args.entries c.loop-rest.rest.now = rw (← c.entry_end.ensures) c.if-rest-entry_end.true in
    sym (entry_in_cut _ _ _ c.loop-rest-test.true (λ e. c.if-found-eq0.false (c.type_at-found.ensures ∙ e)) cut) ∙ c.loop-rest.invariant

pub returns-then-found-kind : goal.returns-then-found-kind
returns-then-found-kind c =
    let whole : entry_end c.args.entries c.loop-rest.rest.now ≤ length c.loop-rest.rest.now = rw (← c.entry_end.ensures) c.if-rest-entry_end.false in
    ap Some c.entry_value.ensures
    ∙ sym (entry_in_front _ _ _ c.loop-rest-test.true (λ e. c.if-found-eq0.false (c.type_at-found.ensures ∙ e)) whole
    (sym c.type_at-found.ensures ∙ c.if-found-kind.true))
    ∙ c.loop-rest.invariant

pub loop-rest-preserved : goal.loop-rest-preserved
loop-rest-preserved c =
    let whole : entry_end c.args.entries c.loop-rest.rest.now ≤ length c.loop-rest.rest.now = rw (← c.entry_end.ensures) c.if-rest-entry_end.false in
    rw c.after_entry-rest.ensures (sym (entry_in_later _ _ _ c.loop-rest-test.true (λ e. c.if-found-eq0.false (c.type_at-found.ensures ∙ e)) whole
    (λ e. c.if-found-kind.false (c.type_at-found.ensures ∙ e)))
    ∙ c.loop-rest.invariant)

pub returns : goal.returns
returns c = sym (entry_in_none _ _ _ (omega (arith, c.loop-rest-test.false))) ∙ c.loop-rest.invariant

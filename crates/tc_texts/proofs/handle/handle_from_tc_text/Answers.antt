use Rattle.std.proofs.Common.{◌∙◌, sym, refl, true≢false}
use Rattle.tc_texts.specs.Handle.{handle_of}
use Rattle.tc_texts.proofs.Handles.{handle_of-other}
use Rattle.tc_texts.proofs.handle.handle_from_tc_text.Goals as goal

pub returns-then-is_same : goal.returns-then-is_same
unfolding handle_of
returns-then-is_same c = rw (c.is_same.ensures.0 c.if-is_same.true) refl

pub returns-then-is_same-2 : goal.returns-then-is_same-2
unfolding handle_of
returns-then-is_same-2 c = rw (c.is_same-else-is_same.ensures.0 c.if-is_same-2.true) refl

pub returns-then-is_same-3 : goal.returns-then-is_same-3
unfolding handle_of
returns-then-is_same-3 c = rw (c.is_same-else-is_same-2.ensures.0 c.if-is_same-3.true) refl

pub returns-then-is_same-4 : goal.returns-then-is_same-4
unfolding handle_of
returns-then-is_same-4 c = rw (c.is_same-else-is_same-3.ensures.0 c.if-is_same-4.true) refl

pub returns-else-is_same-4 : goal.returns-else-is_same-4
returns-else-is_same-4 c =
    c.numbers.ensures
    ∙ sym (handle_of-other c.args.text.now
    (λ e. true≢false (sym (c.is_same.ensures.1 e) ∙ c.if-is_same.false))
    (λ e. true≢false (sym (c.is_same-else-is_same.ensures.1 e) ∙ c.if-is_same-2.false))
    (λ e. true≢false (sym (c.is_same-else-is_same-2.ensures.1 e) ∙ c.if-is_same-3.false))
    (λ e. true≢false (sym (c.is_same-else-is_same-3.ensures.1 e) ∙ c.if-is_same-4.false)))

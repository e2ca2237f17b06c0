use Rattle.std.proofs.Common.{◌∙◌, sym, ap, true≢false}
use Rattle.std.proofs.lemmas.Option.{none-some}
use Rattle.tc_texts.specs.Handle.{handle_text, handle_of}
use Rattle.tc_texts.proofs.Handles.{handle_of-handle_text, same_number}
use Rattle.tc_texts.proofs.handle.read_handle.Goals as goal

pub returns-in-None : goal.returns-in-None
returns-in-None c = λ n fits e. none-some n (c.in-None.ensures ∙ ap handle_of e ∙ handle_of-handle_text n fits)

pub returns-else-is_same : goal.returns-else-is_same
returns-else-is_same c = λ n fits e.
    let same = same_number c.in-Some.handle n _ (sym c.in-Some.ensures) (ap handle_of e ∙ handle_of-handle_text n fits) in
    true≢false (sym (c.is_same.ensures.1 (c.as_str.ensures.value ∙ c.handle_text.ensures ∙ ap handle_text same ∙ sym e)) ∙ c.if-is_same.false)

use Rattle.std.proofs.Common.{ap, sym, ◌∙◌}
use Rattle.std.proofs.lemmas.Slice.Eq.{bytes_eq-Decides}
use Rattle.nla_frames.specs.Fault.{read_as}
use Rattle.nla_frames.proofs.Texts.{text-ok}
use Rattle.tc_actions.proofs.actions.attribute.read_kind.Goals as goal

pub returns-then-eq : goal.returns-then-eq
returns-then-eq g c =
    let same = (bytes_eq-Decides _ _).0 (sym c.eq.ensures ∙ c.if-eq.true) in
    let is_text = text-ok _ _ (sym same ∙ c.strip_nul.ensures) c.as_bytes.ensures.utf8 in
    is_text ∙ ap read_as (sym (c.in_ok-from_str.ensures.ok ∙ sym c.as_bytes.ensures.value))

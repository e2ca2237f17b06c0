use Rattle.std.proofs.Common.{sym, ◌∙◌}
use Rattle.tc_values.proofs.KindSetByFrame.{kind_found, kind_refused}
use Rattle.tc_values.proofs.kind.kind_set_by_frame.Goals as goal

pub returns-in-Ok : goal.returns-in-Ok
returns-in-Ok c =
    kind_found _ _ _ _ (sym c.kind.ensures ∙ c.if-kind-ne-TCA_KIND.false) c.value.ensures.bytes c.strip_nul.ensures c.in-Ok.ensures.cases.1
    c.in-Ok.ensures.cases.0

pub returns-in-Err : goal.returns-in-Err
returns-in-Err c = kind_refused _ _ _ (sym c.kind.ensures ∙ c.if-kind-ne-TCA_KIND.false) c.value.ensures.bytes c.strip_nul.ensures c.in-Err.ensures.cases.0

use Rattle.std.proofs.Common.{ap, sym, ◌∙◌}
use Rattle.nla_frames.proofs.Texts.{text-ok, text-err}
use Rattle.nla_frames.specs.Fault.{read_as}
use Rattle.nla_frames.proofs.values.read.parse_string.Goals as goal

pub returns-in-Err : goal.returns-in-Err
returns-in-Err g c = text-err _ _ c.strip_nul.ensures c.in-Err.ensures.cases.0

pub returns : goal.returns
returns g c =
    let is_text = text-ok _ _ c.strip_nul.ensures c.in-Ok.ensures.cases.1 in
    is_text ∙ ap read_as (sym (c.in_ok-from_str.ensures.ok ∙ c.in-Ok.ensures.cases.0))

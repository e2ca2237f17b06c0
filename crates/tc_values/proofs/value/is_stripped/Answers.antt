use Rattle.std.proofs.Common.{◌∙◌, ap, length, sym}
use Rattle.std.proofs.lemmas.Bool.Decides.{Decides-eqb}
use Rattle.tc_values.proofs.Stripped.{same_length}
use Rattle.tc_values.proofs.value.is_stripped.Goals as goal

pub returns : goal.returns
returns c =
    let d = Decides-eqb (length c.strip_nul.result.now) (length c.args.bytes.now) in
    (λ yes. same_length c.args.bytes.now (ap length (sym c.strip_nul.ensures) ∙ d.0 yes), λ same. d.1 (ap length (c.strip_nul.ensures ∙ same)))

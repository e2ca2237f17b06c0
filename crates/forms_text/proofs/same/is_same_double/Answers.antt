use Rattle.std.proofs.Common.{refl, ap, sym, eq-eqb}
use Rattle.std.proofs.lemmas.Bool.{eqb-true}
use lib.Ieee.{to_bits, binary64}
use Rattle.forms_text.proofs.Floats.{both_nan, same_bits}
use Rattle.forms_text.proofs.same.is_same_double.Goals as goal

pub returns-in-true-true : goal.returns-in-true-true
returns-in-true-true c =
    (λ e. both_nan c.args.one c.args.other (sym c.in-true-true.ensures.value) (sym c.in-true-true.ensures'.value), λ e. refl)

pub returns-in-false-false : goal.returns-in-false-false
returns-in-false-false c = (
  λ e. same_bits c.args.one c.args.other c.well_formed.0.1 c.well_formed.1.0.1 (eqb-true _ _ e),
  λ e. eq-eqb _ _ (ap (to_bits binary64) e),
)

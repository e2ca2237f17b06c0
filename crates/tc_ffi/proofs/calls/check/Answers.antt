use Rattle.std.proofs.Common.{inr}
use Rattle.tc_ffi.proofs.calls.check.Goals as goal

pub returns-in-Err-clause-checks : goal.returns-in-Err-clause-checks
returns-in-Err-clause-checks g c =
    inr (record {
      refuses = record { fault = c.in-Err.e; first = c.in-Err.ensures.refused; number = c.status_of.ensures.number };
      numbers = c.fault_of.ensures.numbers;
      place = c.fault_of.ensures.place;
      inside = c.fault_of.ensures.inside;
    })

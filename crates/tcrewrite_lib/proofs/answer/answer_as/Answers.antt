use Rattle.std.proofs.Common.{inl, inr, refl, rules}
use Rattle.tcrewrite_lib.proofs.answer.answer_as.Goals as goal

pub returns-in_ok-text-in-Ok : goal.returns-in_ok-text-in-Ok
returns-in_ok-text-in-Ok g c = inl (record {
  message = g.M.WholeMessage.message c.in-Ok.message;
  fits = c.is_writable-fits.result;
  settled = c.is_settled-settled.result;
  canonical = c.is_canonical-canonical.result;
  reads = c.in-Ok.ensures.found;
  fits_iff = c.is_writable-fits.ensures;
  settled_iff = c.is_settled-settled.ensures.settled;
  canonical_iff = c.is_canonical-canonical.ensures;
  is = rw c.in_ok-text-in-Ok.ensures refl;
})

pub returns-in_ok-text-in-Err : goal.returns-in_ok-text-in-Err
returns-in_ok-text-in-Err g c = inr (record {
  fault = c.in-Err.e;
  first = c.in-Err.ensures.refused (search rules);
  is = rw (c.in_ok-text-in-Err.ensures.ok, c.name-name.ensures) refl;
})

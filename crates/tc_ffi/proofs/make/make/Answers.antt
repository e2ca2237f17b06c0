use Rattle.tc_ffi.proofs.Built.{none_made}
use Rattle.tc_ffi.proofs.make.make.Goals as goal

pub returns-in-Ok-clause-makes : goal.returns-in-Ok-clause-makes
returns-in-Ok-clause-makes g c = none_made _ _ _ _ _ _ _ _ _ _ _ c.in-Ok.ensures.read (λ bytes wanted same. c.in-Err-make.ensures.found bytes wanted.0 wanted.1 same) c.explain_none.ensures.status

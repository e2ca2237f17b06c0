-- The proof is found without this too; with it, the prover rejects a wrong body after one search.
use Rattle.std.proofs.Common.{rules}
use Rattle.tc_values.proofs.body.EitherBody.is_settled_under.Goals as goal

pub returns-in-Right-clause-settled : goal.returns-in-Right-clause-settled
returns-in-Right-clause-settled g c = search rules

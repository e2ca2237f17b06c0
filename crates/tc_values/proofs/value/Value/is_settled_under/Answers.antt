-- The proof is found without this too; with it, the prover rejects a wrong body after one search.
use Rattle.std.proofs.Common.{rules}
use Rattle.tc_values.proofs.value.Value.is_settled_under.Goals as goal

pub returns-in-Kept-clause-settled : goal.returns-in-Kept-clause-settled
returns-in-Kept-clause-settled g c = search rules

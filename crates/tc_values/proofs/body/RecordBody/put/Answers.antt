-- The proof is found without this too; with it, the prover rejects a wrong body after one search.
use Rattle.std.proofs.Common.{rules}
use Rattle.tc_values.proofs.body.RecordBody.put.Goals as goal

pub returns-clause-written : goal.returns-clause-written
returns-clause-written g c = search rules

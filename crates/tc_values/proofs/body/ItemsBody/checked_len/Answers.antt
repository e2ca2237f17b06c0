-- The proof is found without this too; with it, the prover rejects a wrong body after one search.
use Rattle.std.proofs.Common.{rules}
use Rattle.tc_values.proofs.body.ItemsBody.checked_len.Goals as goal

pub returns : goal.returns
returns g c = search rules

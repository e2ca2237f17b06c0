-- Without this the proof is found too; with it a wrong body of the function is refused by one search.
use Rattle.std.proofs.Common.{rules}
use Rattle.tc_actions.proofs.actions.attribute.TcActionAttributeSetsKind.kind_set.Goals as goal

pub returns-in-Kind : goal.returns-in-Kind
returns-in-Kind g c = search rules

use Rattle.tc_index.specs.Tables.{table_of}
use Rattle.tc_index.proofs.Walks.{entered}
use Rattle.tc_index.proofs.level.Level.in_attribute.Goals as goal

pub returns-in-Some : goal.returns-in-Some
returns-in-Some c depth low =
    entered depth _ (table_of c.in-Some.table) c.in-Some.kind.now c.args.attribute.now.offset c.args.attribute.now.value.now low
    (rw c.number.ensures at c.in-Some.ensures)

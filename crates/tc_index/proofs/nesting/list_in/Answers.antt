use Rattle.tc_index.proofs.Rows.{class-in}
use Rattle.tc_index.proofs.nesting.list_in.Goals as goal

pub returns-in-Some : goal.returns-in-Some
returns-in-Some c = rw (class-in c.args.table c.args.number c.args.kind.now c.in_default.not-Actions) (c.in-Some.ensures c.args.value.now)

pub returns-in-None : goal.returns-in-None
returns-in-None c = rw (class-in c.args.table c.args.number c.args.kind.now c.in_default.not-Actions) (c.in-None.ensures c.args.value.now)

use Rattle.tc_values.proofs.Rows.{settled_shown}
use Rattle.tc_actions.proofs.actions.mirror.TcActionMirrorOptionSettle.is_settled_under.Goals as goal

pub returns-clause-settled : goal.returns-clause-settled
returns-clause-settled g c = settled_shown c.view-word.ensures c.is_read.ensures c.args.kind.now c.is_settled_under.ensures.settled

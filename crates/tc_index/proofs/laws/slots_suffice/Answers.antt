use Rattle.tc_index.proofs.Counting.{tc-count, action-count}
use Rattle.tc_index.proofs.laws.slots_suffice.Goals as goal

pub returns-clause-tc : goal.returns-clause-tc
returns-clause-tc c = tc-count c.args.bytes.now

pub returns-clause-action : goal.returns-clause-action
returns-clause-action c = action-count c.args.bytes.now

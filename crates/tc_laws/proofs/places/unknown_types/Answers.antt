use Rattle.tc_laws.proofs.UnknownLaws.{tc-keeps_unknown, act-keeps_unknown}
use Rattle.tc_laws.proofs.places.unknown_types.Goals as goal

pub returns-clause-tc : goal.returns-clause-tc
returns-clause-tc c = tc-keeps_unknown

pub returns-clause-action : goal.returns-clause-action
returns-clause-action c = act-keeps_unknown

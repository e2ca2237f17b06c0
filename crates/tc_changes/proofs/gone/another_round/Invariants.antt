use Rattle.std.proofs.Common.{take}
use Rattle.std.specs.HashSet as bag
use Rattle.tc_changes.specs.Planned.{IsRound}
use Rattle.tc_changes.specs.Promises.{suits}
use Rattle.tc_changes.specs.Objects.{things, same_key}
use Rattle.tc_changes.proofs.gone.another_round.Given as goal

abbrev pub invariant-loop-object : goal.invariant-loop-object
invariant-loop-object g l = IsRound same_key (g.R.Rules.weak l.rules) (suits (g.R.Rules.weak l.rules) (g.R.Rules.takes l.rules)) (things l.state) (things l.want)
    (bag.contains same_key l.fn.gone) (bag.contains same_key l.more) l.is_more (things (take l.object-index l.state))

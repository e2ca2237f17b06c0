use Rattle.std.proofs.Common.{take}
use Rattle.std.specs.HashSet as bag
use Rattle.tc_changes.specs.Objects.{things, same_key}
use Rattle.tc_changes.proofs.Parted.{IsParted}
use Rattle.tc_changes.proofs.parts.parted.Given as goal

abbrev pub invariant-loop-place : goal.invariant-loop-place
invariant-loop-place g l = IsParted (g.R.Rules.weak l.rules) (bag.contains same_key l.going) (things l.state) l.removed l.gone.items l.kept
    (things (take l.place l.state))

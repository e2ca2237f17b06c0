use Rattle.std.proofs.Common.{take}
use Rattle.nla_frames.specs.Place.{kinds_set}
use Rattle.nla_frames.specs.OnlyKind.{Summarizes}
use Rattle.nla_frames.proofs.only_kind.only_kind_set.Given as goal

-- `only` tells of the kinds that the items so far set
abbrev pub invariant-loop-item : goal.invariant-loop-item
invariant-loop-item g l = Summarizes l.only (kinds_set g.T.SetsKind.sets (take l.item-index l.items))

use Rattle.std.proofs.Common.{◌↔◌, length}
use Rattle.nla_frames.specs.Reading.{keep}
use Rattle.tc_canon.specs.Canonical.{IsCanonList}
use Rattle.tc_canon.proofs.lists.is_canonical_list.Given as goal

abbrev pub invariant-loop-rest : goal.invariant-loop-rest
invariant-loop-rest g l = IsCanonList g.T.Table.Canon keep l.kind l.bytes ↔ IsCanonList g.T.Table.Canon keep l.kind l.rest

abbrev pub decreases-loop-rest : goal.decreases-loop-rest
decreases-loop-rest g l = length l.rest

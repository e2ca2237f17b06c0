use Rattle.std.proofs.Common.{◌↔◌, List, ℕ, length}
use Rattle.tc_canon.specs.Kind.{SetsOneKind}
use Rattle.tc_canon.specs.Canonical.{IsPaddedList}
use Rattle.tc_canon.proofs.OwnKind.{SetsOneKindAfter, kind_so_far}
use Rattle.tc_canon.proofs.kinds.own_kind.Given as goal

abbrev pub invariant-loop-rest : goal.invariant-loop-rest
invariant-loop-rest l = (own : List ℕ) → IsPaddedList (λ fs. SetsOneKind fs own) l.value ↔ SetsOneKindAfter (kind_so_far l.own) own l.rest

abbrev pub decreases-loop-rest : goal.decreases-loop-rest
decreases-loop-rest l = length l.rest

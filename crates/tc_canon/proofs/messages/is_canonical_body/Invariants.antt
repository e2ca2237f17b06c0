use Rattle.std.proofs.Common.{◌↔◌, [], length}
use Rattle.tc_canon.specs.Descriptor.{table}
use Rattle.tc_canon.specs.Kind.{kind_of_frame}
use Rattle.tc_canon.specs.Tables.Messages.{attributes}
use Rattle.tc_canon.specs.Canonical.{CanonTable, IsCanonAtEach, IsCanonList}
use Rattle.tc_canon.proofs.messages.is_canonical_body.Given as goal

abbrev pub invariant-loop-kind : goal.invariant-loop-kind
invariant-loop-kind l = IsCanonAtEach (CanonTable (table attributes)) kind_of_frame [] l.bytes
    ↔ IsCanonList (CanonTable (table attributes)) kind_of_frame l.kind l.rest

abbrev pub decreases-loop-kind : goal.decreases-loop-kind
decreases-loop-kind l = length l.rest

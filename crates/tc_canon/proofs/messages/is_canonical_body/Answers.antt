use Rattle.std.proofs.Common.{◌≡◌, true, false, refl, []}
use Rattle.nla_frames.proofs.Items.{some_bytes}
use Rattle.tc_canon.specs.Descriptor.{table}
use Rattle.tc_canon.specs.Kind.{kind_of_frame}
use Rattle.tc_canon.specs.Tables.Messages.{attributes}
use Rattle.tc_canon.specs.Canonical.{CanonTable}
use Rattle.tc_canon.proofs.PaddedLists.{front-shorter, list-goes_on, list-refuses, list-breaks}
use Rattle.tc_canon.proofs.Places.{list-places}
use Rattle.tc_canon.proofs.messages.is_canonical_body.Goals as goal

pub loop-kind-init : goal.loop-kind-init
loop-kind-init c = list-places (CanonTable (table attributes)) kind_of_frame [] c.args.bytes.now

pub returns-then-not-is_canonical : goal.returns-then-not-is_canonical
returns-then-not-is_canonical c = (
  λ x. cc,
  λ w. absurd (list-refuses (CanonTable (table attributes)) kind_of_frame _ _ _ c.loop-kind.invariant _ _ c.in-Some.ensures
      (λ x. let no : false ≡ true = c.if-not-is_canonical.ensures.1 x in cc) w),
)

pub loop-kind-smaller : goal.loop-kind-smaller
loop-kind-smaller c = front-shorter _ _ _ c.in-Some.ensures

pub loop-kind-preserved : goal.loop-kind-preserved
loop-kind-preserved c = rw c.kind_after-kind.ensures
    (list-goes_on (CanonTable (table attributes)) kind_of_frame _ _ _ c.loop-kind.invariant _ _ c.in-Some.ensures (c.if-not-is_canonical.ensures.0 refl))

pub returns-in-None : goal.returns-in-None
returns-in-None c = (
  λ x. cc,
  λ w.
      absurd (list-breaks (CanonTable (table attributes)) kind_of_frame _ _ _ c.loop-kind.invariant
      (some_bytes _ _ c.is_empty.ensures c.loop-kind-test.true) c.in-None.ensures w),
)

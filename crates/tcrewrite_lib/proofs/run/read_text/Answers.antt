use Rattle.std.proofs.Common.{arith, inl, inr}
use Rattle.tcrewrite_lib.proofs.Streams.{Consumes-next, IsTextOf-taken}
use Rattle.tcrewrite_lib.proofs.run.read_text.Goals as goal
use Rattle.tcrewrite_lib.proofs.run.read_text.Goals.{else-parts-test, then-parts-test+in_ok-read_part+then-not-branch}

pub parts-preserved : goal.parts-preserved
parts-preserved g c = record {
  taken = Consumes-next _ _ _ _ _ c.parts.invariant.taken c.in_ok-read_part.ensures.starts c.in_ok-read_part.ensures.bytes;
  bound = omega arith;
}

pub returns : goal.returns
returns g c = elim c.parts-test.branch [
  | else-parts-test w ↦ rw (w.reader-is, w.text-is) (IsTextOf-taken _ _ _ c.parts.invariant.taken c.parts.invariant.bound (inl (omega arith)))
  | then-parts-test+in_ok-read_part+then-not-branch w ↦ rw (w.reader-is, w.text-is) (IsTextOf-taken _ _ _
      (Consumes-next _ _ _ _ _ c.parts.invariant.taken w.in_ok-read_part.ensures.starts w.in_ok-read_part.ensures.bytes) (omega arith)
      (inr (w.in_ok-read_part.ensures.end w.if-not-branch.true)))
]

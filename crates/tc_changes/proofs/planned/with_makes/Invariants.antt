use Rattle.std.proofs.Common.{◌≡◌, ◌++◌, List, map}
use Rattle.std.specs.Vec.Iter.{into_iter_items}
use Rattle.tc_changes.specs.Planned.{makes}
use Rattle.tc_changes.specs.Objects.{KernelThing, things, same_key, alike, request, IsIndexOf}
use Rattle.tc_changes.proofs.planned.with_makes.Given as goal

-- what is left to do leads to the same
abbrev pub invariant-loop-object : goal.invariant-loop-object
invariant-loop-object g l = (stay : List KernelThing) → IsIndexOf (things l.state) l.kept stay
    → map request l.steps.items ++ makes same_key alike stay (things (into_iter_items l.object-iterator))
    ≡ map request l.fn.steps.items ++ makes same_key alike stay (things l.fn.want.items)

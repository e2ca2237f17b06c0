use Rattle.std.proofs.Common.{◌≡◌}
use Rattle.tc_index.specs.Views.{lists_left}
use Rattle.tc_index.proofs.attributes.Attributes.leave.Given as goal

abbrev pub invariant-loop-self : goal.invariant-loop-self
invariant-loop-self l = lists_left l.self ≡ lists_left l.fn.self

abbrev pub decreases-loop-self : goal.decreases-loop-self
decreases-loop-self l = l.self.depth

use Rattle.std.proofs.Common.{◌≡◌, drop}
use Rattle.tc_canon.specs.Widths.{look_up}
use Rattle.tc_canon.proofs.flower.find_width.Given as goal

abbrev pub invariant-loop-first : goal.invariant-loop-first
invariant-loop-first l = look_up (drop l.first-index l.ranges) l.kind ≡ look_up l.ranges l.kind

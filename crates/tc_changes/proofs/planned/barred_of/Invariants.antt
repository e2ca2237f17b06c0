use Rattle.std.proofs.Common.{◌≡◌, map, take}
use Rattle.tc_changes.specs.Plans.{barred_keys}
use Rattle.tc_changes.specs.Objects.{request}
use Rattle.tc_changes.proofs.planned.barred_of.Given as goal

abbrev pub invariant-loop-step : goal.invariant-loop-step
invariant-loop-step g l = l.keys.items ≡ barred_keys (g.R.Rules.can_make l.rules) (map request (take l.step-index l.steps))

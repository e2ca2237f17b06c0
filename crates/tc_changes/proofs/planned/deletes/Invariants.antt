use Rattle.std.proofs.Common.{◌≡◌, map, take}
use Rattle.tc_changes.specs.Requests.{Delete}
use Rattle.tc_changes.specs.Objects.{request}
use Rattle.tc_changes.proofs.planned.deletes.Given as goal

abbrev pub invariant-loop-key : goal.invariant-loop-key
invariant-loop-key g l = map request l.steps.items ≡ map Delete (take l.key-index l.key-items)

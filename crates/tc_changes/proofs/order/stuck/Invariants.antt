use Rattle.std.proofs.Common.{◌≡◌, [], true, take}
use Rattle.tc_changes.specs.Model.{ready}
use Rattle.tc_changes.specs.Objects.{things, same_key, IsSetOf}
use Rattle.tc_changes.proofs.Wholes.{passed}
use Rattle.tc_changes.proofs.order.stuck.Given as goal

abbrev pub invariant-loop-object : goal.invariant-loop-object
invariant-loop-object g l = record {
  keys : IsSetOf l.before (passed [] (things (take l.object-index l.objects)));
  order : ready same_key [] (things (take l.object-index l.objects)) ≡ true;
}

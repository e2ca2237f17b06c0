use Rattle.std.proofs.Common.{◌≡◌, [], take, true}
use Rattle.tc_changes.specs.Model.{unders}
use Rattle.tc_changes.specs.Requests.{settled}
use Rattle.tc_changes.specs.Objects.{things, same_key, IsSetOf}
use Rattle.tc_changes.proofs.weak.loose.Given as goal

-- the objects so far are as a plan needs them
abbrev pub invariant-loop-object : goal.invariant-loop-object
invariant-loop-object g l = record {
  keys : IsSetOf l.unders (unders (things (take l.object-index l.state)));
  order : settled same_key (g.R.Rules.weak l.rules) (things l.state) [] (things (take l.object-index l.state)) ≡ true;
}

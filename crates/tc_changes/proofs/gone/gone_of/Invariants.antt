use Rattle.std.proofs.Common.{◌≡◌, ◌≤◌, true, false}
use Rattle.std.specs.List.{AllByRecursion}
use Rattle.std.specs.HashSet as bag
use Rattle.tc_changes.specs.Plans.{CanStay}
use Rattle.tc_changes.specs.Planned.{goes, count}
use Rattle.tc_changes.specs.Promises.{suits}
use Rattle.tc_changes.specs.Objects.{things, same_key}
use Rattle.tc_changes.specs.declared.key.Key.{Key as KeyModel}
use Rattle.tc_changes.proofs.gone.gone_of.Given as goal

-- what is gone had to go, and each round was one more
abbrev pub invariant-loop : goal.invariant-loop
invariant-loop g l = record {
  rightly : AllByRecursion (λ o. bag.contains same_key l.gone o.key ≡ true
      → goes same_key (g.R.Rules.weak l.rules) (suits (g.R.Rules.weak l.rules) (g.R.Rules.takes l.rules)) (things l.state) (things l.want)
      (bag.contains same_key l.gone) o ≡ true) (things l.state);
  sparing : (k : KeyModel)
      → CanStay same_key (g.R.Rules.weak l.rules) (suits (g.R.Rules.weak l.rules) (g.R.Rules.takes l.rules)) (things l.state) (things l.want) k
      → bag.contains same_key l.gone k ≡ false;
  many : l.counter ≤ count (bag.contains same_key l.gone) (things l.state);
}

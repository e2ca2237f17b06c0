use Rattle.std.proofs.Common.{◌≡◌, drop}
use Rattle.std.specs.HashMap as hash
use Rattle.tc_changes.specs.Planned.{first_by}
use Rattle.tc_changes.specs.Objects.{same_key}
use Rattle.tc_changes.proofs.removed.first_remover.Given as goal

-- those to come have what all have
abbrev pub invariant-loop-key : goal.invariant-loop-key
invariant-loop-key g l = first_by (hash.get same_key l.removed) (drop l.key-index l.keys) ≡ first_by (hash.get same_key l.removed) l.keys

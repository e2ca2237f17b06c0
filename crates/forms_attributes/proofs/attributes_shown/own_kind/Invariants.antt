use Rattle.std.proofs.Common.{◌≡◌, ◌-◌, length}
use Rattle.forms_attributes.specs.Kinds.{own_kind}
use Rattle.forms_attributes.proofs.attributes_shown.own_kind.Given as goal

abbrev pub invariant-loop-count : goal.invariant-loop-count
invariant-loop-count l = own_kind (length l.bytes) l.bytes ≡ own_kind (length l.bytes - l._count) l.left

use Rattle.std.proofs.Common.{◌≡◌}
use Rattle.tc_index.specs.Views.{items_left}
use Rattle.tc_faults.specs.Located.{first_fault, first_offset}
use Rattle.tc_faults.proofs.reader.first_fault.Given as goal

abbrev pub invariant-loop-attribute : goal.invariant-loop-attribute
invariant-loop-attribute l = record {
  error : first_fault (items_left l.attribute-iterator) ≡ first_fault (items_left l.fn.attributes);
  offset : first_offset (items_left l.attribute-iterator) ≡ first_offset (items_left l.fn.attributes);
}

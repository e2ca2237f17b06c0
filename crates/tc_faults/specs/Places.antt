-- The place of a fault.
use Rattle.std.specs.Prelude.{ℕ}
use Rattle.tc_index.specs.Views.{placed_of}
use Rattle.tc_faults.specs.Located.{own_offset}
use Rattle.tc_faults.specs.declared.reader.At.{At}
use Rattle.tc_faults.specs.declared.reader.At.TheVariants as the

-- its offset
abbrev pub offset_of : At → ℕ
offset_of (the.Attribute a) = own_offset (placed_of a)
offset_of (the.Frame offset) = offset

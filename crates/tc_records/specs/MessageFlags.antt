-- The flags of an action message: the word of a value, and the table of names and bits; the last row has all bits and
-- no name.
use Rattle.std.specs.Prelude.{ℕ, List, [], ◌∷◌, codes}
use Rattle.bitflags.specs.Sets.{Row}
use Rattle.tc_records.specs.declared.actions.message_flags.TcActionMessageFlags.{TcActionMessageFlags}

abbrev pub message_flags_word : TcActionMessageFlags → ℕ
message_flags_word f = f.0

abbrev pub message_flags_table : List Row
message_flags_table = (codes "LargeDump", 0x1) ∷ (codes "TerseDump", 0x2) ∷ (codes "", 0xFFFFFFFF) ∷ []

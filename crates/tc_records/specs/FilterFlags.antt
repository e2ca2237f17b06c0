-- The flags of filters: the word of a value, and the table of names and bits; the last row has all bits and no name.
use Rattle.std.specs.Prelude.{ℕ, List, [], ◌∷◌, codes}
use Rattle.bitflags.specs.Sets.{Row}
use Rattle.tc_records.specs.declared.filters.bpf.TcBpfFlags.{TcBpfFlags}
use Rattle.tc_records.specs.declared.filters.u32_flags.TcU32SelectorFlags.{TcU32SelectorFlags}
use Rattle.tc_records.specs.declared.filters.u32_flags.TcU32OptionFlags.{TcU32OptionFlags}

abbrev pub bpf_flags_word : TcBpfFlags → ℕ
bpf_flags_word f = f.0

abbrev pub bpf_flags_table : List Row
bpf_flags_table = (codes "DirectAction", 0x1) ∷ (codes "", 0xFFFFFFFF) ∷ []

abbrev pub selector_flags_byte : TcU32SelectorFlags → ℕ
selector_flags_byte f = f.0

abbrev pub selector_flags_table : List Row
selector_flags_table =
    (codes "Terminal", 0x1)
    ∷ (codes "Offset", 0x2)
    ∷ (codes "VarOffset", 0x4)
    ∷ (codes "Eat", 0x8)
    ∷ (codes "", 0xFF)
    ∷ []

abbrev pub option_flags_word : TcU32OptionFlags → ℕ
option_flags_word f = f.0

abbrev pub option_flags_table : List Row
option_flags_table =
    (codes "SkipHw", 0x1)
    ∷ (codes "SkipSw", 0x2)
    ∷ (codes "InHw", 0x4)
    ∷ (codes "NotInHw", 0x8)
    ∷ (codes "Verbose", 0x10)
    ∷ (codes "", 0xFFFFFFFF)
    ∷ []

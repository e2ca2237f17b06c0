-- The flags of network address translation: the word of a value, and the table of names and bits.
use Rattle.std.specs.Prelude.{ℕ, List, [], ◌∷◌, codes}
use Rattle.bitflags.specs.Sets.{Row}
use Rattle.tc_records.specs.declared.actions.nat_flag.TcNatFlags.{TcNatFlags}

abbrev pub nat_flags_word : TcNatFlags → ℕ
nat_flags_word flags = flags.0

-- the last row has all bits and no name
abbrev pub nat_flags_table : List Row
nat_flags_table =
    (codes "Egress", 0x1)
    ∷ (codes "Police", 0x10000)
    ∷ (codes "Bind", 0x20000)
    ∷ (codes "Replace", 0x40000)
    ∷ (codes "NoRtnl", 0x80000)
    ∷ (codes "AtIngress", 0x100000)
    ∷ (codes "", 0xFFFFFFFF)
    ∷ []

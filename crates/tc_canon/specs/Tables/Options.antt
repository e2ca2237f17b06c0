-- The tables of options except flower's, and the known kinds of a message.
use Rattle.std.specs.Prelude.{codes}
use Rattle.tc_canon.specs.Descriptor.{Rows, Kinds, others, unknown, kind, le, array, raw, text, selector, ◌▹◌, at, from}
use Rattle.tc_canon.specs.Tables.Actions.{actions}
use Rattle.tc_canon.specs.Tables.Flower.{flower_options}

-- `TcQdiscFqCodelOption`
abbrev pub fq_codel_options : Rows
fq_codel_options =
    from 1 9 (le 4)  -- Target, Limit, Interval, Ecn, Flows, Quantum, CeThreshold, DropBatchSize, MemoryLimit
    ▹ at 10 (le 1)  -- CeThresholdSelector
    ▹ at 11 (le 1)  -- CeThresholdMask
    ▹ others

-- `TcQdiscIngressOption`
abbrev pub ingress_options : Rows
ingress_options = others

-- `TcFilterU32Option`
abbrev pub u32_options : Rows
u32_options =
    at 1 (le 4)  -- ClassId
    ▹ from 2 4 (le 4)  -- Hash, Link, Divisor
    ▹ at 5 selector  -- Selector
    ▹ at 6 raw  -- Police
    ▹ at 7 actions  -- Action
    ▹ from 8 10 raw  -- Indev, Pnct, Mark
    ▹ at 11 (le 4)  -- Flags
    ▹ others

-- `TcFilterMatchAllOption`
abbrev pub matchall_options : Rows
matchall_options =
    at 1 (le 4)  -- ClassId
    ▹ at 2 actions  -- Action
    ▹ at 3 (le 4)  -- Flags
    ▹ at 4 raw  -- Pnct
    ▹ others

-- `TcFilterBpfOption`
abbrev pub bpf_options : Rows
bpf_options =
    at 3 (le 4)  -- ClassId
    ▹ at 6 (le 4)  -- ProgFd
    ▹ at 7 text  -- ProgName
    ▹ at 8 (le 4)  -- Flags
    ▹ at 9 (le 4)  -- FlagsGeneric
    ▹ at 10 (array 8)  -- ProgTag
    ▹ at 11 (le 4)  -- ProgId
    ▹ others

-- the known kinds of a message
abbrev pub option_kinds : Kinds
option_kinds =
    kind (codes "fq_codel") fq_codel_options
    (kind (codes "ingress") ingress_options
    (kind (codes "flower") flower_options
    (kind (codes "u32") u32_options
    (kind (codes "matchall") matchall_options
    (kind (codes "bpf") bpf_options
    unknown)))))

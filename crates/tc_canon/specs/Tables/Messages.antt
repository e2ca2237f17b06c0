-- The tables of both messages.
use Rattle.tc_canon.specs.Descriptor.{Rows, others, options, le, raw, text, warning, presence, fields, pair, xstats, list_of, table, ◌▹◌, at, from}
use Rattle.tc_canon.specs.Layouts.{stats}
use Rattle.tc_canon.specs.Tables.Statistics.{stats2}
use Rattle.tc_canon.specs.Tables.Actions.{actions}
use Rattle.tc_canon.specs.Tables.Options.{option_kinds}

-- `TcAttribute`
abbrev pub attributes : Rows
attributes =
    at 1 text  -- Kind
    ▹ options 2 option_kinds  -- Options under a known kind, OptionsRaw under any other
    ▹ at 3 (fields stats)  -- Stats
    ▹ at 4 xstats  -- Xstats
    ▹ from 5 6 raw  -- Rate, Fcnt
    ▹ at 7 (list_of (table stats2))  -- Stats2
    ▹ at 8 raw  -- Stab
    ▹ at 10 presence  -- DumpInvisible
    ▹ at 11 (le 4)  -- Chain
    ▹ at 12 (le 1)  -- HwOffload
    ▹ others

-- `TcActionMessageAttribute`
abbrev pub action_message_attributes : Rows
action_message_attributes =
    at 1 actions  -- Actions
    ▹ at 2 pair  -- Flags
    ▹ at 3 (le 4)  -- RootCount
    ▹ at 4 (le 4)  -- RootTimeDelta
    ▹ at 5 warning  -- RootExtWarnMsg
    ▹ others

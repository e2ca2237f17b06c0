-- The table of statistics.
use Rattle.tc_canon.specs.Descriptor.{Rows, others, fields, xstats, ◌▹◌, at}
use Rattle.tc_canon.specs.Layouts.{stats_basic, stats_queue}

-- `TcStats2`
abbrev pub stats2 : Rows
stats2 =
    at 1 (fields stats_basic)  -- Basic
    ▹ at 3 (fields stats_queue)  -- Queue
    ▹ at 4 xstats  -- App
    ▹ at 7 (fields stats_basic)  -- BasicHw
    ▹ others

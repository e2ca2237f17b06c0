-- The abstract values of statistics: lists of fields.
use Rattle.std.specs.Prelude.{List, [], ◌∷◌}
use Rattle.std.specs.Int.{w32, cast_unsigned}
use Rattle.tc_meaning.specs.Tree.{Scalar, plain, blank}
use Rattle.tc_records.specs.declared.stats.compat.TcStats.{TcStats}
use Rattle.tc_records.specs.declared.stats.basic.TcStatsBasic.{TcStatsBasic}
use Rattle.tc_records.specs.declared.stats.queue.TcStatsQueue.{TcStatsQueue}
use Rattle.tc_records.specs.declared.qdiscs.fq_codel.TcFqCodelQdStats.{TcFqCodelQdStats}
use Rattle.tc_records.specs.declared.qdiscs.fq_codel.TcFqCodelClStats.{TcFqCodelClStats}

abbrev pub stats_scalars : TcStats → List Scalar
stats_scalars s =
    plain s.bytes
    ∷ plain s.packets
    ∷ plain s.drops
    ∷ plain s.overlimits
    ∷ plain s.bps
    ∷ plain s.pps
    ∷ plain s.qlen
    ∷ plain s.backlog
    ∷ blank
    ∷ []

abbrev pub basic_scalars : TcStatsBasic → List Scalar
basic_scalars s = plain s.bytes ∷ plain s.packets ∷ blank ∷ []

abbrev pub queue_scalars : TcStatsQueue → List Scalar
queue_scalars s = plain s.qlen ∷ plain s.backlog ∷ plain s.drops ∷ plain s.requeues ∷ plain s.overlimits ∷ []

abbrev pub qd_stats_scalars : TcFqCodelQdStats → List Scalar
qd_stats_scalars s =
    plain s.maxpacket
    ∷ plain s.drop_overlimit
    ∷ plain s.ecn_mark
    ∷ plain s.new_flow_count
    ∷ plain s.new_flows_len
    ∷ plain s.old_flows_len
    ∷ plain s.ce_mark
    ∷ plain s.memory_usage
    ∷ plain s.drop_overmemory
    ∷ []

abbrev pub cl_stats_scalars : TcFqCodelClStats → List Scalar
cl_stats_scalars s =
    plain (cast_unsigned w32 s.deficit)
    ∷ plain s.ldelay
    ∷ plain s.count
    ∷ plain s.lastcount
    ∷ plain s.dropping
    ∷ plain (cast_unsigned w32 s.drop_next)
    ∷ []

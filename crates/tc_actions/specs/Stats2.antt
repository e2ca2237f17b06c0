-- The abstract value of an attribute with statistics.
use Rattle.std.specs.Prelude.{◌≡◌}
use Rattle.nla_frames.specs.DefaultNla.{kept_frame}
use Rattle.tc_canon.specs.Layouts.{stats_basic, stats_queue}
use Rattle.tc_meaning.specs.Tree.{Attribute, known, other, record_of}
use Rattle.tc_values.specs.Inner.{Inner}
use Rattle.tc_values.specs.Bodies.{either}
use Rattle.tc_values.specs.declared.body.Record.{Record}
use Rattle.tc_values.specs.declared.body.Either.{Either}
use Rattle.tc_records.specs.declared.stats.basic.TcStatsBasic.{TcStatsBasic}
use Rattle.tc_records.specs.declared.stats.queue.TcStatsQueue.{TcStatsQueue}
use Rattle.tc_records.specs.Statistics.{basic_scalars, queue_scalars}
use Rattle.tc_values.specs.Records.{record_part}
use Rattle.tc_actions.specs.Xstats.{tc_xstats, xstats_part}
use Rattle.tc_actions.specs.declared.stats.xstats.TcXstats.{TcXstats}
use Rattle.tc_actions.specs.declared.stats.stats2.TcStats2.{TcStats2}
use Rattle.tc_actions.specs.declared.stats.stats2.TcStats2.TheVariants.{App, Basic, Queue, BasicHw, Other}

abbrev pub tc_stats2 : {A : Type 0} → TcStats2 A → Attribute
tc_stats2 (App stats) = known 4 (tc_xstats stats)
tc_stats2 (Basic stats) = known 1 (record_of (basic_scalars stats))
tc_stats2 (Queue stats) = known 3 (record_of (queue_scalars stats))
tc_stats2 (BasicHw stats) = known 7 (record_of (basic_scalars stats))
tc_stats2 (Other nla) = other (kept_frame nla).word (kept_frame nla).value

-- nested values of the attributes
abbrev pub stats2_body : {A : Type 0} → Inner (Either (Record (TcXstats A)) (Either (Record TcStatsBasic) (Record TcStatsQueue)))
stats2_body = either xstats_part (either (record_part basic_scalars stats_basic) (record_part queue_scalars stats_queue))

-- two of them hold the same: equal statistics of a qdisc; one that is kept raw the same word and
-- payload; all others are equal
abbrev pub SameStats2 : {A : Type 0} → TcStats2 A → TcStats2 A → Type 0
SameStats2 (App x) (App y) = tc_xstats x ≡ tc_xstats y
SameStats2 (Other x) (Other y) = kept_frame x ≡ kept_frame y
SameStats2 a b = a ≡ b

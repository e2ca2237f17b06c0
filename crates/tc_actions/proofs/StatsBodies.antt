-- The nested values of statistics are those of their classes.
use Rattle.std.proofs.Common.{◌&&◌, Bool, nat_eq, refl, ap}
use Rattle.std.specs.Ordering.{on}
use Rattle.tc_canon.specs.Descriptor.{fields, xstats}
use Rattle.tc_canon.specs.Layouts.{stats_basic, stats_queue}
use Rattle.tc_meaning.specs.Content.{a_record, record_codec, xstats_codec}
use Rattle.tc_meaning.specs.Equal.{same_content}
use Rattle.tc_values.specs.Inner.{IsInner}
use Rattle.tc_values.specs.Bodies.{same_of_either}
use Rattle.tc_values.specs.Records.{record_part}
use Rattle.tc_values.specs.Same.{IsSame}
use Rattle.tc_values.specs.declared.body.Either.TheVariants.{Left, Right}
use Rattle.tc_values.specs.declared.body.Record.{Record}
use Rattle.tc_values.proofs.Bodies.{is_either}
use Rattle.tc_values.proofs.Records.{is_record, and_none, same_of}
use Rattle.tc_values.proofs.SameRows.{same_part, same_either}
use Rattle.tc_records.specs.Statistics.{basic_scalars, queue_scalars}
use Rattle.tc_records.specs.declared.stats.basic.TcStatsBasic.{TcStatsBasic}
use Rattle.tc_records.specs.declared.stats.queue.TcStatsQueue.{TcStatsQueue}
use Rattle.tc_actions.specs.Xstats.{tc_xstats, as_it_is, xstats_part}
use Rattle.tc_actions.specs.Stats2.{stats2_body}
use Rattle.tc_actions.specs.declared.stats.xstats.TcXstats.{TcXstats}

pub is_xstats : {A : Type 0} → IsInner (xstats_part {A = A})
is_xstats = record {
  bytes = λ r. refl;
  fits = λ r. (λ f. f, λ f. f);
  typed = λ r t. t;
  settled = λ kind r. (λ s. s, λ s. s);
}

pub is_stats2_body : {A : Type 0} → IsInner (stats2_body {A = A})
is_stats2_body = is_either _ _ is_xstats (is_either _ _ (is_record basic_scalars stats_basic) (is_record queue_scalars stats_queue))

-- ---- they are compared by their abstract values

abbrev same_xstats : {A : Type 0} → Record (TcXstats A) → Record (TcXstats A) → Bool
same_xstats r s = on tc_xstats same_content r.0.now s.0.now

abbrev same_basic : TcStatsBasic → TcStatsBasic → Bool
same_basic s t = nat_eq s.bytes t.bytes && nat_eq s.packets t.packets

abbrev same_queue : TcStatsQueue → TcStatsQueue → Bool
same_queue s t =
    nat_eq s.qlen t.qlen
    && (nat_eq s.backlog t.backlog && (nat_eq s.drops t.drops && (nat_eq s.requeues t.requeues && nat_eq s.overlimits t.overlimits)))

are_same_basic : IsSame (record_part basic_scalars stats_basic) (same_of same_basic)
are_same_basic = same_part basic_scalars a_record (record_codec stats_basic) (fields stats_basic) same_basic refl
    (λ s t. ap (λ last. nat_eq s.bytes t.bytes && last) (and_none (nat_eq s.packets t.packets)))

are_same_queues : IsSame (record_part queue_scalars stats_queue) (same_of same_queue)
are_same_queues = same_part queue_scalars a_record (record_codec stats_queue) (fields stats_queue) same_queue refl
    (λ s t. ap (λ last.
    nat_eq s.qlen t.qlen && (nat_eq s.backlog t.backlog && (nat_eq s.drops t.drops && (nat_eq s.requeues t.requeues && last))))
    (and_none (nat_eq s.overlimits t.overlimits)))

are_same_xstats : {A : Type 0} → IsSame (xstats_part {A = A}) same_xstats
are_same_xstats = same_part tc_xstats as_it_is xstats_codec xstats (on tc_xstats same_content) refl (λ r s. refl)

pub same_stats2_body : {A : Type 0}
    → IsSame (stats2_body {A = A}) (same_of_either same_xstats (same_of_either (same_of same_basic) (same_of same_queue)))
same_stats2_body = same_either (λ l. elim [ Left r ↦ λ e. absurd (cc e) | Right r ↦ λ e. absurd (cc e) ]) are_same_xstats
    (same_either (λ l r e. absurd (cc e)) are_same_basic are_same_queues)

-- The abstract value of statistics of fq_codel.
use Rattle.std.specs.Prelude.{◌≡◌, ℕ, ◌≤◌, List, length, take, codes}
use Rattle.nla_frames.specs.Codec.{Codec}
use Rattle.nla_frames.specs.Value.{le_value}
use Rattle.tc_meaning.specs.Tree.{Content, statistics, unknown_statistics}
use Rattle.tc_meaning.specs.Content.{xstats_codec}
use Rattle.tc_records.specs.Statistics.{qd_stats_scalars, cl_stats_scalars}
use Rattle.tc_actions.specs.declared.stats.fq_codel.TcFqCodelXstats.{TcFqCodelXstats}
use Rattle.tc_actions.specs.declared.stats.fq_codel.TcFqCodelXstats.TheVariants.{Qdisc, Class, Other}

abbrev pub fq_codel_xstats : {A : Type 0} → TcFqCodelXstats A → Content
fq_codel_xstats (Qdisc stats) = statistics 0 (qd_stats_scalars stats)
fq_codel_xstats (Class stats) = statistics 1 (cl_stats_scalars stats)
fq_codel_xstats (Other bytes) = unknown_statistics bytes.items

-- two of them hold the same: those of a class, which have a signed number, the same fields; others the same bytes; those
-- of the qdisc are equal
abbrev pub SameFqCodelXstats : {A : Type 0} → TcFqCodelXstats A → TcFqCodelXstats A → Type 0
SameFqCodelXstats (Class x) (Class y) = cl_stats_scalars x ≡ cl_stats_scalars y
SameFqCodelXstats (Other v) (Other w) = v.items ≡ w.items
SameFqCodelXstats a b = a ≡ b

-- statistics under the kind of fq_codel, whatever kind is in force
abbrev pub fq_codel_xstats_codec : Codec (List ℕ) Content
fq_codel_xstats_codec = record {
  read = λ kind value. xstats_codec.read (codes "fq_codel") value;
  write = xstats_codec.write;
  Typed = xstats_codec.Typed;
  Fits = xstats_codec.Fits;
  Settled = λ kind x. xstats_codec.Settled (codes "fq_codel") x;
}

-- the bytes begin with a number, which names no record
abbrev pub IsNoNumber : List ℕ → Type 0
IsNoNumber bytes = (4 ≤ length bytes) × (2 ≤ le_value (take 4 bytes))

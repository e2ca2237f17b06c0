-- The abstract value of an option of fq_codel.
use Rattle.std.specs.Prelude.{◌≡◌}
use Rattle.nla_frames.specs.DefaultNla.{kept_frame}
use Rattle.tc_meaning.specs.Tree.{Attribute, known, other, number}
use Rattle.tc_options.specs.declared.qdiscs.fq_codel.TcQdiscFqCodelOption.{TcQdiscFqCodelOption}
use Rattle.tc_options.specs.declared.qdiscs.fq_codel.TcQdiscFqCodelOption.TheVariants.{Target, Limit, Interval, Ecn, Flows, Quantum, CeThreshold, DropBatchSize}
use Rattle.tc_options.specs.declared.qdiscs.fq_codel.TcQdiscFqCodelOption.TheVariants.{MemoryLimit, CeThresholdSelector, CeThresholdMask, Other}

abbrev pub fq_codel_option : {A : Type 0} → TcQdiscFqCodelOption A → Attribute
fq_codel_option (Target n) = known 1 (number n)
fq_codel_option (Limit n) = known 2 (number n)
fq_codel_option (Interval n) = known 3 (number n)
fq_codel_option (Ecn n) = known 4 (number n)
fq_codel_option (Flows n) = known 5 (number n)
fq_codel_option (Quantum n) = known 6 (number n)
fq_codel_option (CeThreshold n) = known 7 (number n)
fq_codel_option (DropBatchSize n) = known 8 (number n)
fq_codel_option (MemoryLimit n) = known 9 (number n)
fq_codel_option (CeThresholdSelector n) = known 10 (number n)
fq_codel_option (CeThresholdMask n) = known 11 (number n)
fq_codel_option (Other nla) = other (kept_frame nla).word (kept_frame nla).value

-- two options hold the same: one that is kept raw the same word and payload; all others are equal
abbrev pub SameFqCodel : {A : Type 0} → TcQdiscFqCodelOption A → TcQdiscFqCodelOption A → Type 0
SameFqCodel (Other x) (Other y) = kept_frame x ≡ kept_frame y
SameFqCodel a b = a ≡ b

-- The abstract value of a qdisc's own statistics.
use Rattle.std.specs.Prelude.{◌≡◌}
use Rattle.tc_canon.specs.Descriptor.{xstats}
use Rattle.tc_meaning.specs.Tree.{Content, is_bytes}
use Rattle.tc_meaning.specs.Content.{Shape, xstats_codec}
use Rattle.tc_values.specs.Inner.{Inner}
use Rattle.tc_values.specs.Bodies.{part_of}
use Rattle.tc_values.specs.declared.body.Record.{Record}
use Rattle.tc_actions.specs.FqCodelXstats.{fq_codel_xstats}
use Rattle.tc_actions.specs.declared.stats.xstats.TcXstats.{TcXstats}
use Rattle.tc_actions.specs.declared.stats.xstats.TcXstats.TheVariants.{FqCodel, Other}

abbrev pub tc_xstats : {A : Type 0} → TcXstats A → Content
tc_xstats (FqCodel stats) = fq_codel_xstats stats
tc_xstats (Other bytes) = is_bytes bytes.items

-- two of them hold the same: those of fq_codel are equal, all others have the same bytes
abbrev pub SameXstats : {A : Type 0} → TcXstats A → TcXstats A → Type 0
SameXstats (FqCodel x) (FqCodel y) = fq_codel_xstats x ≡ fq_codel_xstats y
SameXstats (Other v) (Other w) = v.items ≡ w.items
SameXstats a b = ⊥

-- contents as they are
abbrev pub as_it_is : Shape Content
as_it_is = record { into = λ x. x; out = λ x. x }

-- as the value of an attribute
abbrev pub xstats_part : {A : Type 0} → Inner (Record (TcXstats A))
xstats_part = part_of tc_xstats as_it_is xstats_codec xstats

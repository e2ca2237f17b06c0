-- The abstract value of an option of ingress.
use Rattle.std.specs.Prelude.{◌≡◌}
use Rattle.nla_frames.specs.DefaultNla.{kept_frame}
use Rattle.tc_meaning.specs.Tree.{Attribute, other}
use Rattle.tc_options.specs.declared.qdiscs.ingress.TcQdiscIngressOption.{TcQdiscIngressOption}
use Rattle.tc_options.specs.declared.qdiscs.ingress.TcQdiscIngressOption.TheVariants.{Other}

abbrev pub ingress_option : {A : Type 0} → TcQdiscIngressOption A → Attribute
ingress_option (Other nla) = other (kept_frame nla).word (kept_frame nla).value

-- two options hold the same word and payload
abbrev pub SameIngress : {A : Type 0} → TcQdiscIngressOption A → TcQdiscIngressOption A → Type 0
SameIngress (Other x) (Other y) = kept_frame x ≡ kept_frame y

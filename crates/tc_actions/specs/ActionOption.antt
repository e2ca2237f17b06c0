-- The abstract value of an option of an action.
use Rattle.std.specs.Prelude.{◌≡◌, codes}
use Rattle.nla_frames.specs.DefaultNla.{kept_frame}
use Rattle.tc_meaning.specs.Tree.{Attribute, other, of_kind}
use Rattle.tc_actions.specs.Mirror.{mirror_option}
use Rattle.tc_actions.specs.Nat.{nat_option}
use Rattle.tc_actions.specs.TunnelKey.{tunnel_key_option}
use Rattle.tc_actions.specs.declared.actions.option.TcActionOption.{TcActionOption}
use Rattle.tc_actions.specs.declared.actions.option.TcActionOption.TheVariants.{Mirror, Nat, TunnelKey, Other}

abbrev pub action_option : {A : Type 0} → TcActionOption A → Attribute
action_option (Mirror option) = of_kind (codes "mirred") (mirror_option option)
action_option (Nat option) = of_kind (codes "nat") (nat_option option)
action_option (TunnelKey option) = of_kind (codes "tunnel_key") (tunnel_key_option option)
action_option (Other nla) = other (kept_frame nla).word (kept_frame nla).value

-- two options hold the same: equal options of one kind, or the same word and payload
abbrev pub SameActionOption : {A : Type 0} → TcActionOption A → TcActionOption A → Type 0
SameActionOption (Mirror x) (Mirror y) = mirror_option x ≡ mirror_option y
SameActionOption (Nat x) (Nat y) = nat_option x ≡ nat_option y
SameActionOption (TunnelKey x) (TunnelKey y) = tunnel_key_option x ≡ tunnel_key_option y
SameActionOption (Other x) (Other y) = kept_frame x ≡ kept_frame y
SameActionOption a b = ⊥

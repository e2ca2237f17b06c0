-- The nlmsg_types of traffic control: their names in linux/rtnetlink.h, and the type of message of each.
use Rattle.std.specs.Prelude.{ℕ, List, Option, Some, None, codes, ◌==◌, if◌then◌else◌}
use Rattle.tc_capture.specs.declared.kind.MessageType.{MessageType}
use Rattle.tc_capture.specs.declared.kind.MessageType.TheVariants.{Tc, Action}
use Rattle.tc_capture.specs.declared.kind.RtmType.{RtmType}

-- the word that names a type of message
abbrev pub word_of : MessageType → List ℕ
word_of Tc = codes "tc"
word_of Action = codes "action"

pub record Named : Type 0 where
  pub holds : MessageType
  pub name : List ℕ

-- the abstract value of a row
abbrev pub named_of : RtmType → Named
named_of r = record { holds = r.holds; name = r.name.now }

abbrev pub tc_row : List ℕ → Option Named
tc_row name = Some (record { holds = Tc; name = name })

abbrev pub action_row : List ℕ → Option Named
action_row name = Some (record { holds = Action; name = name })

unfoldable pub rtm_at : ℕ → Option Named
rtm_at kind =
    if kind == 36 then tc_row (codes "RTM_NEWQDISC") else
    if kind == 37 then tc_row (codes "RTM_DELQDISC") else
    if kind == 38 then tc_row (codes "RTM_GETQDISC") else
    if kind == 40 then tc_row (codes "RTM_NEWTCLASS") else
    if kind == 41 then tc_row (codes "RTM_DELTCLASS") else
    if kind == 42 then tc_row (codes "RTM_GETTCLASS") else
    if kind == 44 then tc_row (codes "RTM_NEWTFILTER") else
    if kind == 45 then tc_row (codes "RTM_DELTFILTER") else
    if kind == 46 then tc_row (codes "RTM_GETTFILTER") else
    if kind == 48 then action_row (codes "RTM_NEWACTION") else
    if kind == 49 then action_row (codes "RTM_DELACTION") else
    if kind == 50 then action_row (codes "RTM_GETACTION") else
    if kind == 100 then tc_row (codes "RTM_NEWCHAIN") else
    if kind == 101 then tc_row (codes "RTM_DELCHAIN") else
    if kind == 102 then tc_row (codes "RTM_GETCHAIN") else None

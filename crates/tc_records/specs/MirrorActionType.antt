-- The numbers of mirred's actions, `TCA_EGRESS_REDIR` and the following of `linux/tc_act/tc_mirred.h`.
use Rattle.std.specs.Prelude.{ℤ, pos, if◌then◌else◌}
use Rattle.std.specs.Int.{w32, cast_unsigned}
use Rattle.std.specs.Ordering.{int_eq}
use Rattle.tc_meaning.specs.Tree.{Scalar, plain, unnamed}
use Rattle.tc_records.specs.declared.actions.mirror.TcMirrorActionType.{TcMirrorActionType}
use Rattle.tc_records.specs.declared.actions.mirror.TcMirrorActionType.TheVariants.{EgressRedir, EgressMirror, IngressRedir, IngressMirror, Other}

-- the action with this number
abbrev pub mirror_action_type_of : ℤ → TcMirrorActionType
mirror_action_type_of n =
    if int_eq n (pos 1) then EgressRedir else
    if int_eq n (pos 2) then EgressMirror else
    if int_eq n (pos 3) then IngressRedir else
    if int_eq n (pos 4) then IngressMirror else
    Other n

-- the number of an action
abbrev pub mirror_action_type_number : TcMirrorActionType → ℤ
mirror_action_type_number EgressRedir = pos 1
mirror_action_type_number EgressMirror = pos 2
mirror_action_type_number IngressRedir = pos 3
mirror_action_type_number IngressMirror = pos 4
mirror_action_type_number (Other n) = n

-- the action as a field of a record
abbrev pub mirror_action_type_scalar : TcMirrorActionType → Scalar
mirror_action_type_scalar (Other n) = unnamed (cast_unsigned w32 n)
mirror_action_type_scalar action = plain (cast_unsigned w32 (mirror_action_type_number action))

-- The numbers of verdicts, `TC_ACT_*` of `linux/pkt_cls.h`.
use Rattle.std.specs.Prelude.{ℤ, pos, negsuc, if◌then◌else◌}
use Rattle.std.specs.Int.{w32, cast_unsigned}
use Rattle.std.specs.Ordering.{int_eq}
use Rattle.tc_meaning.specs.Tree.{Scalar, plain, unnamed}
use Rattle.tc_records.specs.declared.actions.action.TcActionType.{TcActionType}
use Rattle.tc_records.specs.declared.actions.action.TcActionType.TheVariants.{Unspec, Ok, Reclassify, Shot, Pipe, Stolen, Queued, Repeat, Redirect, Trap, Other}

-- the verdict with this number; `negsuc 0` is -1
abbrev pub action_type_of : ℤ → TcActionType
action_type_of n =
    if int_eq n (negsuc 0) then Unspec else
    if int_eq n (pos 0) then Ok else
    if int_eq n (pos 1) then Reclassify else
    if int_eq n (pos 2) then Shot else
    if int_eq n (pos 3) then Pipe else
    if int_eq n (pos 4) then Stolen else
    if int_eq n (pos 5) then Queued else
    if int_eq n (pos 6) then Repeat else
    if int_eq n (pos 7) then Redirect else
    if int_eq n (pos 8) then Trap else
    Other n

-- the number of a verdict
abbrev pub action_type_number : TcActionType → ℤ
action_type_number Unspec = negsuc 0
action_type_number Ok = pos 0
action_type_number Reclassify = pos 1
action_type_number Shot = pos 2
action_type_number Pipe = pos 3
action_type_number Stolen = pos 4
action_type_number Queued = pos 5
action_type_number Repeat = pos 6
action_type_number Redirect = pos 7
action_type_number Trap = pos 8
action_type_number (Other n) = n

-- the verdict as a field of a record
abbrev pub action_type_scalar : TcActionType → Scalar
action_type_scalar (Other n) = unnamed (cast_unsigned w32 n)
action_type_scalar action = plain (cast_unsigned w32 (action_type_number action))

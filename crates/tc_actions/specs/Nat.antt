-- The abstract value of an option of the action nat.
use Rattle.std.specs.Prelude.{◌≡◌}
use Rattle.nla_frames.specs.DefaultNla.{kept_frame}
use Rattle.tc_canon.specs.Layouts.{tcf, nat}
use Rattle.tc_meaning.specs.Tree.{Attribute, known, other, record_of}
use Rattle.tc_values.specs.Inner.{Inner}
use Rattle.tc_values.specs.Bodies.{either}
use Rattle.tc_values.specs.declared.body.Record.{Record}
use Rattle.tc_values.specs.declared.body.Either.{Either}
use Rattle.tc_records.specs.declared.actions.tcf.Tcf.{Tcf}
use Rattle.tc_records.specs.declared.actions.nat.TcNat.{TcNat}
use Rattle.tc_records.specs.Tcf.{tcf_scalars}
use Rattle.tc_records.specs.Actions.{nat_scalars}
use Rattle.tc_values.specs.Records.{record_part}
use Rattle.tc_actions.specs.declared.actions.nat.TcActionNatOption.{TcActionNatOption}
use Rattle.tc_actions.specs.declared.actions.nat.TcActionNatOption.TheVariants.{Tm, Parms, Other}

abbrev pub nat_option : {A : Type 0} → TcActionNatOption A → Attribute
nat_option (Tm times) = known 2 (record_of (tcf_scalars times))
nat_option (Parms parms) = known 1 (record_of (nat_scalars parms))
nat_option (Other nla) = other (kept_frame nla).word (kept_frame nla).value

-- nested values of the options
abbrev pub nat_body : Inner (Either (Record Tcf) (Record TcNat))
nat_body = either (record_part tcf_scalars tcf) (record_part nat_scalars nat)

-- two options hold the same: `Parms`, which has signed numbers, the same fields; one that is kept raw the same word and
-- payload; all others are equal
abbrev pub SameNat : {A : Type 0} → TcActionNatOption A → TcActionNatOption A → Type 0
SameNat (Parms x) (Parms y) = nat_scalars x ≡ nat_scalars y
SameNat (Other x) (Other y) = kept_frame x ≡ kept_frame y
SameNat a b = a ≡ b

-- The abstract value of an option of the action mirred.
use Rattle.std.specs.Prelude.{◌≡◌}
use Rattle.nla_frames.specs.DefaultNla.{kept_frame}
use Rattle.tc_canon.specs.Layouts.{tcf, mirror}
use Rattle.tc_meaning.specs.Tree.{Attribute, known, other, record_of}
use Rattle.tc_values.specs.Inner.{Inner}
use Rattle.tc_values.specs.Bodies.{either}
use Rattle.tc_values.specs.declared.body.Record.{Record}
use Rattle.tc_values.specs.declared.body.Either.{Either}
use Rattle.tc_records.specs.declared.actions.tcf.Tcf.{Tcf}
use Rattle.tc_records.specs.declared.actions.mirror.TcMirror.{TcMirror}
use Rattle.tc_records.specs.Tcf.{tcf_scalars}
use Rattle.tc_records.specs.Actions.{mirror_scalars}
use Rattle.tc_values.specs.Records.{record_part}
use Rattle.tc_actions.specs.declared.actions.mirror.TcActionMirrorOption.{TcActionMirrorOption}
use Rattle.tc_actions.specs.declared.actions.mirror.TcActionMirrorOption.TheVariants.{Tm, Parms, Other}

abbrev pub mirror_option : {A : Type 0} → TcActionMirrorOption A → Attribute
mirror_option (Tm times) = known 1 (record_of (tcf_scalars times))
mirror_option (Parms parms) = known 2 (record_of (mirror_scalars parms))
mirror_option (Other nla) = other (kept_frame nla).word (kept_frame nla).value

-- nested values of the options
abbrev pub mirror_body : Inner (Either (Record Tcf) (Record TcMirror))
mirror_body = either (record_part tcf_scalars tcf) (record_part mirror_scalars mirror)

-- two options hold the same: `Parms`, which has signed numbers, the same fields; one that is kept raw the same word and
-- payload; all others are equal
abbrev pub SameMirror : {A : Type 0} → TcActionMirrorOption A → TcActionMirrorOption A → Type 0
SameMirror (Parms x) (Parms y) = mirror_scalars x ≡ mirror_scalars y
SameMirror (Other x) (Other y) = kept_frame x ≡ kept_frame y
SameMirror a b = a ≡ b

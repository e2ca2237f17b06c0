use Rattle.std.proofs.Common.{refl}
use Rattle.std.specs.Prelude.{codes}
use Rattle.std.proofs.lemmas.Result.{err_from_is_err_and}
use Rattle.nla_frames.specs.Buffer.{frame_of}
use Rattle.tc_canon.specs.Tables.Actions.{action_option_kinds, mirror_options}
use Rattle.tc_values.proofs.OfKinds.{option_read, option_refused}
use Rattle.tc_actions.proofs.actions.one_kind.MirrorFrameReaderTcActionOption.read.Goals as goal

pub returns-in_err-parse : goal.returns-in_err-parse
returns-in_err-parse g c =
    let p = err_from_is_err_and c.from_residual.result c.from_residual.ensures.1 in
    let name = codes "mirred" in
    rw (p.1, p.2) (option_refused action_option_kinds name mirror_options (λ g. refl) refl name (frame_of c.args.buf.now) refl _ c.in_err-parse.ensures)

pub returns : goal.returns
returns g c =
    let name = codes "mirred" in
    option_read action_option_kinds name mirror_options (λ g. refl) refl name (frame_of c.args.buf.now) refl _ c.in_ok-parse.ensures

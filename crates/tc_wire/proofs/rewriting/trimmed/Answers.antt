use Rattle.std.proofs.Common.{sym, ap, subst, ◌∙◌}
use Rattle.std.proofs.lemmas.Result.{err_from_is_err_and}
use Rattle.tc_meaning.specs.Whole.{action_words, FitsAct, act_bytes}
use Rattle.tc_action_messages.specs.ActionMessage.{action_message}
use Rattle.tc_wire.proofs.Rewrites.{refused}
use Rattle.tc_wire.proofs.rewriting.trimmed.Goals as goal

pub returns-in_err-message-clause-refused : goal.returns-in_err-message-clause-refused
returns-in_err-message-clause-refused g c =
    let p = err_from_is_err_and c.from_residual.result c.from_residual.ensures.1 in
    rw (p.1, p.2) (refused action_words c.args.bytes.now c.action_message.ensures _ c.in_err-message.ensures.refused)

pub buffer_len-len-requires : goal.buffer_len-len-requires
buffer_len-len-requires g c =
    subst FitsAct (sym c.trim_warnings-nuls.ensures.trimmed)
    (c.action_rewriting.ensures.norm_fits (action_message c.in_ok-message.message) c.in_ok-message.ensures.fits)

pub emitted-requires-clause-fits : goal.emitted-requires-clause-fits
emitted-requires-clause-fits g c =
    subst FitsAct (sym c.trim_warnings-nuls.ensures.trimmed)
    (c.action_rewriting.ensures.norm_fits (action_message c.in_ok-message.message) c.in_ok-message.ensures.fits)

pub returns-clause-trimmed : goal.returns-clause-trimmed
returns-clause-trimmed g c = record {
  message = action_message c.in_ok-message.message;
  reads = (c.action_message.ensures.reading (action_message c.in_ok-message.message)).0 c.in_ok-message.ensures.read;
  fits = c.in_ok-message.ensures.fits;
  is = c.in_ok-emitted.ensures ∙ ap act_bytes c.trim_warnings-nuls.ensures.trimmed;
  most = c.trim_warnings-nuls.ensures.most;
}

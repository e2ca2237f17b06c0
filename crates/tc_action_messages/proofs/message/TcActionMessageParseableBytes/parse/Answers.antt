use Rattle.std.proofs.Common.{◌≡◌, ◌↔◌, false}
use Rattle.nla_frames.proofs.Outcomes.{IfOk-Returns, IfRefused-Returns, UnlessMemory-Returns}
use Rattle.tc_canon.specs.Canonical.{CanonAct}
use Rattle.tc_meaning.specs.Whole.{ReadsAct, FaultAct, read_act, act_bytes, FitsAct, SettledAct}
use Rattle.tc_laws.specs.Loose.{is_loose_act}
use Rattle.tc_action_messages.specs.ActionMessage.{action_message, TakesUnknownAct}
use Rattle.tc_action_messages.proofs.message.TcActionMessageParseableBytes.parse.Goals as goal

pub returns-clause-found : goal.returns-clause-found
returns-clause-found g c =
    IfOk-Returns action_message c.read.result (read_act c.args.bytes.now) c.read.ensures (ReadsAct c.args.bytes.now)
    (λ m is. (c.action_message.ensures.reading m).0 is)

pub returns-clause-refused : goal.returns-clause-refused
returns-clause-refused g c =
    IfRefused-Returns action_message c.read.result (read_act c.args.bytes.now) c.read.ensures (FaultAct c.args.bytes.now)
    (λ e is. (c.action_message.ensures.fault e).0 is)

pub returns-clause-same : goal.returns-clause-same
returns-clause-same g c =
    IfOk-Returns action_message c.read.result (read_act c.args.bytes.now) c.read.ensures
    (λ m. FitsAct m → (act_bytes m ≡ c.args.bytes.now) ↔ CanonAct c.args.bytes.now)
    (λ m is. c.action_message.ensures.same m ((c.action_message.ensures.reading m).0 is))

pub returns-clause-canonical : goal.returns-clause-canonical
returns-clause-canonical g c = λ canon.
    let r = c.action_message.ensures.canonical canon in
    UnlessMemory-Returns action_message c.read.result (read_act c.args.bytes.now) c.read.ensures r.0 ((c.action_message.ensures.reading r.0).1 r.1)
    (λ m. FitsAct m × SettledAct m) (r.2, r.3)

pub returns-clause-loose : goal.returns-clause-loose
returns-clause-loose g c =
    IfOk-Returns action_message c.read.result (read_act c.args.bytes.now) c.read.ensures (λ m. SettledAct m ↔ is_loose_act m ≡ false)
    (λ m is. c.action_rewriting.ensures.loose m ((c.action_message.ensures.reading m).0 is))

pub returns-clause-unknown : goal.returns-clause-unknown
returns-clause-unknown g c =
    IfOk-Returns action_message c.read.result (read_act c.args.bytes.now) c.read.ensures (TakesUnknownAct c.args.bytes.now)
    (λ m is. c.unknown_types.ensures.action c.args.bytes.now m ((c.action_message.ensures.reading m).0 is))

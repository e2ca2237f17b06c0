use Rattle.std.proofs.Common.{◌≡◌, ◌↔◌, false}
use Rattle.nla_frames.proofs.Outcomes.{IfOk-Returns, IfRefused-Returns, UnlessMemory-Returns}
use Rattle.tc_canon.specs.Canonical.{CanonTc}
use Rattle.tc_meaning.specs.Whole.{ReadsTc, FaultTc, read_tc, tc_bytes, FitsTc, SettledTc}
use Rattle.tc_laws.specs.Loose.{is_loose_tc}
use Rattle.tc_messages.specs.Message.{tc_message, TakesUnknownTc}
use Rattle.tc_messages.proofs.message.TcMessageParseableBytes.parse.Goals as goal

pub returns-clause-found : goal.returns-clause-found
returns-clause-found g c =
    IfOk-Returns tc_message c.read.result (read_tc c.args.bytes.now) c.read.ensures (ReadsTc c.args.bytes.now) (λ m. (c.tc_message.ensures.reading m).0)

pub returns-clause-refused : goal.returns-clause-refused
returns-clause-refused g c =
    IfRefused-Returns tc_message c.read.result (read_tc c.args.bytes.now) c.read.ensures (FaultTc c.args.bytes.now) (λ e. (c.tc_message.ensures.fault e).0)

pub returns-clause-same : goal.returns-clause-same
returns-clause-same g c =
    IfOk-Returns tc_message c.read.result (read_tc c.args.bytes.now) c.read.ensures
    (λ m. FitsTc m → (tc_bytes m ≡ c.args.bytes.now) ↔ CanonTc c.args.bytes.now)
    (λ m is. c.tc_message.ensures.same m ((c.tc_message.ensures.reading m).0 is))

pub returns-clause-canonical : goal.returns-clause-canonical
returns-clause-canonical g c = λ canonical.
    let read = c.tc_message.ensures.canonical canonical in
    UnlessMemory-Returns tc_message c.read.result (read_tc c.args.bytes.now) c.read.ensures
    read.0 ((c.tc_message.ensures.reading read.0).1 read.1) (λ m. FitsTc m × SettledTc m) (read.2, read.3)

pub returns-clause-loose : goal.returns-clause-loose
returns-clause-loose g c =
    IfOk-Returns tc_message c.read.result (read_tc c.args.bytes.now) c.read.ensures (λ m. SettledTc m ↔ (is_loose_tc m ≡ false))
    (λ m is. c.tc_rewriting.ensures.loose m ((c.tc_message.ensures.reading m).0 is))

pub returns-clause-unknown : goal.returns-clause-unknown
returns-clause-unknown g c =
    IfOk-Returns tc_message c.read.result (read_tc c.args.bytes.now) c.read.ensures (TakesUnknownTc c.args.bytes.now)
    (λ m is. c.unknown_types.ensures.tc c.args.bytes.now m ((c.tc_message.ensures.reading m).0 is))

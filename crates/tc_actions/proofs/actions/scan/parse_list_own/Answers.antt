use Rattle.std.proofs.Common.{map}
use Rattle.nla_frames.proofs.Outcomes.{IfOk-Returns, IfRefused-Returns}
use Rattle.tc_meaning.specs.Own.{read_own}
use Rattle.tc_meaning.specs.OwnGrammar.{OwnReads, OwnFault}
use Rattle.tc_actions.proofs.actions.scan.parse_list_own.Goals as goal

pub returns-clause-found : goal.returns-clause-found
returns-clause-found g c =
    let reads = g.T.FrameMeaning.codec.read in
    IfOk-Returns (λ v. map g.T.FrameMeaning.see v.items) c.parse_own.result (read_own reads c.args.bytes.now) c.parse_own.ensures
    (OwnReads reads c.args.bytes.now) (λ xs. (c.own_grammar.ensures.reading xs).0)

pub returns-clause-refused : goal.returns-clause-refused
returns-clause-refused g c =
    let reads = g.T.FrameMeaning.codec.read in
    IfRefused-Returns (λ v. map g.T.FrameMeaning.see v.items) c.parse_own.result (read_own reads c.args.bytes.now) c.parse_own.ensures
    (OwnFault reads c.args.bytes.now) (λ e. (c.own_grammar.ensures.fault e).0)

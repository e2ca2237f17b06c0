use Rattle.nla_frames.proofs.Bytes.{IsBytes-slice}
use Rattle.nla_frames.proofs.ListGrammarLaws.{one_outcome}
use Rattle.nla_frames.proofs.laws.list_grammar.Goals as goal

pub returns : goal.returns
returns g c = λ sets. one_outcome g.T.FrameMeaning.codec.read sets c.args.kind.now c.args.bytes.now (IsBytes-slice c.args.bytes.now c.type_inv.bytes)

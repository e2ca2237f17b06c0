use Rattle.nla_frames.proofs.Bytes.{IsBytes-slice}
use Rattle.tc_meaning.proofs.OwnGrammarLaws.{one_own}
use Rattle.tc_meaning.proofs.laws.own_grammar.Goals as goal

pub returns : goal.returns
returns g c = one_own g.T.FrameMeaning.codec.read c.args.bytes.now (IsBytes-slice c.args.bytes.now c.type_inv.bytes)

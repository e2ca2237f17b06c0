use Rattle.nla_frames.proofs.Texts.{IsText-slice}
use Rattle.nla_frames.proofs.values.write.put_text.Goals as goal

pub returns-clause-typed : goal.returns-clause-typed
returns-clause-typed c = IsText-slice c.args.text.now c.type_inv.text c.utf8.text

use Rattle.nla_frames.proofs.Texts.{IsText-slice}
use Rattle.nla_frames.proofs.laws.in_range.text_is_utf8.Goals as goal

pub returns : goal.returns
returns c = IsText-slice c.args.text.now c.type_inv.text c.utf8.text

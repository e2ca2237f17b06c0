use Rattle.std.proofs.Common.{refl}
use Rattle.nla_frames.proofs.Items.{items-nil}
use Rattle.tc_index.proofs.attributes.Attributes.end.Goals as goal

pub returns : goal.returns
returns c = rw items-nil refl

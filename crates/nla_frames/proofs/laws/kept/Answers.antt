use Rattle.nla_frames.proofs.KeptLaws.{kept_laws}
use Rattle.nla_frames.proofs.laws.kept.Goals as goal

pub returns : goal.returns
returns c = kept_laws

use Rattle.nla_frames.proofs.ListLaws.{list_laws}
use Rattle.nla_frames.proofs.laws.lists.Goals as goal

pub returns : goal.returns
returns g c = λ by_frame by_value agree laws. list_laws g.T.FrameMeaning.codec g.T.CanonMeaning.Canon laws by_frame by_value agree

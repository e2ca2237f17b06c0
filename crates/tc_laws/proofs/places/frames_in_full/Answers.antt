use Rattle.tc_laws.proofs.FramesInFull.{InFull-append, InFull-parts}
use Rattle.tc_laws.proofs.places.frames_in_full.Goals as goal

pub returns-clause-joined : goal.returns-clause-joined
returns-clause-joined c = InFull-append

pub returns-clause-parted : goal.returns-clause-parted
returns-clause-parted c = InFull-parts

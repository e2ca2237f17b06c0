use Rattle.tc_capture_laws.proofs.PartJoins.{parts-join}
use Rattle.tc_capture_laws.proofs.parts.parts_join.Goals as goal

pub returns : goal.returns
returns c s = parts-join c.args.most s c.args.file.now

use Rattle.tc_changes.specs.Objects.{same_key}
use Rattle.tc_changes.proofs.Certain.{certain}
use Rattle.tc_changes.proofs.laws.along_is_certain.Goals as goal

pub returns : goal.returns
returns c = λ weak state k one two along_one along_two. certain same_key weak state k one two state along_one along_two

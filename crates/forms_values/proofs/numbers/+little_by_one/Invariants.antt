use Rattle.std.proofs.Common.{length}
use Rattle.forms_values.proofs.numbers.+little_by_one.Given as goal

abbrev pub decreases-little_by_one : goal.decreases-little_by_one
decreases-little_by_one l = length l.bytes.now

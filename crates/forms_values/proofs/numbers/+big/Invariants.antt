use Rattle.std.proofs.Common.{length}
use Rattle.forms_values.proofs.numbers.+big.Given as goal

abbrev pub decreases-big : goal.decreases-big
decreases-big l = length l.bytes.now

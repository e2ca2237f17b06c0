use Rattle.std.proofs.Common.{length}
use Rattle.forms_values.proofs.records.+all_zero.Given as goal

abbrev pub decreases-all_zero : goal.decreases-all_zero
decreases-all_zero l = length l.bytes.now

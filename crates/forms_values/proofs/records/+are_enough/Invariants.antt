use Rattle.std.proofs.Common.{length}
use Rattle.forms_values.proofs.records.+are_enough.Given as goal

abbrev pub decreases-are_enough : goal.decreases-are_enough
decreases-are_enough g l = length l.fields.now

use Rattle.std.proofs.Common.{length}
use Rattle.forms_values.proofs.choices.+choice_of.Given as goal

abbrev pub decreases-choice_of : goal.decreases-choice_of
decreases-choice_of l = length l.choices.now

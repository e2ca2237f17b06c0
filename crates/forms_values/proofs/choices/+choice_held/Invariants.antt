use Rattle.std.proofs.Common.{length}
use Rattle.forms_values.proofs.choices.+choice_held.Given as goal

abbrev pub decreases-choice_held : goal.decreases-choice_held
decreases-choice_held l = length l.choices.now

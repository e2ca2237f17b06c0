use Rattle.std.proofs.Common.{length}
use Rattle.forms_values.proofs.choices.+choice_named.Given as goal

abbrev pub decreases-choice_named : goal.decreases-choice_named
decreases-choice_named l = length l.choices.now

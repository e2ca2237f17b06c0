use Rattle.forms_values.proofs.maker.Maker.+put_little_by_one.Given as goal

abbrev pub decreases-put_little_by_one : goal.decreases-put_little_by_one
decreases-put_little_by_one l = l.width

use Rattle.forms_values.proofs.maker.Maker.+put_zeros.Given as goal

abbrev pub decreases-put_zeros : goal.decreases-put_zeros
decreases-put_zeros l = l.count

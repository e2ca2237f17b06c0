use Rattle.forms_values.proofs.maker.Maker.+put_big.Given as goal

abbrev pub decreases-put_big : goal.decreases-put_big
decreases-put_big l = l.width

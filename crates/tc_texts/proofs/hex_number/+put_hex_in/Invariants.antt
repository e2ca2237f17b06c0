use Rattle.tc_texts.proofs.hex_number.+put_hex_in.Given as goal

abbrev pub decreases-put_hex_in : goal.decreases-put_hex_in
decreases-put_hex_in g l = l.n

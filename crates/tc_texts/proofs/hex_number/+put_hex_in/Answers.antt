use Rattle.std.proofs.Common.{arith, append_assoc}
use Rattle.tc_texts.proofs.HexNumbers.{hex-more}
use Rattle.tc_texts.proofs.hex_number.+put_hex_in.Goals as goal

pub returns : goal.returns
returns g t c = grind (arith, hex-more c.args.left c.in-Some.after c.args.n, append_assoc)

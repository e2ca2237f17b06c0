use Rattle.std.proofs.Common.{arith}
use Rattle.hex.specs.Hex.{IsBytes}
use Rattle.tc_texts.proofs.HexTexts.{encode_lower-hex_text}
use Rattle.tc_texts.proofs.hex_text.hex_string.Goals as goal

pub returns : goal.returns
returns g c =
    let bytes : IsBytes c.args.bytes.now = λ i. omega (arith, c.type_inv.bytes i) in
    rw (← encode_lower-hex_text c.args.bytes.now bytes) c.encode.ensures

use Rattle.tc_texts.proofs.HexTexts.{hex_text-injective, encode_lower-hex_text}
use Rattle.tc_texts.proofs.laws.hex_texts.Goals as goal

pub returns-clause-injective : goal.returns-clause-injective
returns-clause-injective c = hex_text-injective

pub returns-clause-hex : goal.returns-clause-hex
returns-clause-hex c = encode_lower-hex_text

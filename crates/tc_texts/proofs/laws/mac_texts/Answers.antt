use Rattle.tc_texts.specs.Addresses.{mac_text}
use Rattle.tc_texts.proofs.Mac.{mac_text-injective}
use Rattle.tc_texts.proofs.Inverse.{gives_back}
use Rattle.tc_texts.proofs.laws.mac_texts.Goals as goal

pub returns-clause-injective : goal.returns-clause-injective
returns-clause-injective c = mac_text-injective

pub returns-clause-read : goal.returns-clause-read
returns-clause-read c = gives_back mac_text 6 mac_text-injective

use Rattle.tc_texts.specs.Addresses.{ipv4_text}
use Rattle.tc_texts.proofs.Ipv6.{ipv4_text-injective}
use Rattle.tc_texts.proofs.Inverse.{gives_back}
use Rattle.tc_texts.proofs.laws.ipv4_texts.Goals as goal

pub returns-clause-injective : goal.returns-clause-injective
returns-clause-injective c = ipv4_text-injective

pub returns-clause-read : goal.returns-clause-read
returns-clause-read c = gives_back ipv4_text 4 ipv4_text-injective

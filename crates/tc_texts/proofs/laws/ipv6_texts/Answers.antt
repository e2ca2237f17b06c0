use Rattle.tc_texts.specs.Addresses.{ipv6_text}
use Rattle.tc_texts.proofs.Ipv6.{ipv6_text-injective}
use Rattle.tc_texts.proofs.Inverse.{gives_back}
use Rattle.tc_texts.proofs.laws.ipv6_texts.Goals as goal

pub returns-clause-injective : goal.returns-clause-injective
returns-clause-injective c = ipv6_text-injective

pub returns-clause-read : goal.returns-clause-read
returns-clause-read c = gives_back ipv6_text 16 ipv6_text-injective

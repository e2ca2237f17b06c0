use Rattle.tc_meaning.specs.Equal.{scalars_decide}
use Rattle.tc_records.specs.Actions.{mirror_scalars, nat_scalars, tunnel_key_scalars}
use Rattle.tc_records.proofs.laws.equal.equal_actions.Goals as goal

pub returns-clause-mirror : goal.returns-clause-mirror
returns-clause-mirror c = λ a b. scalars_decide (mirror_scalars a) (mirror_scalars b)

pub returns-clause-nat : goal.returns-clause-nat
returns-clause-nat c = λ a b. scalars_decide (nat_scalars a) (nat_scalars b)

pub returns-clause-tunnel : goal.returns-clause-tunnel
returns-clause-tunnel c = λ a b. scalars_decide (tunnel_key_scalars a) (tunnel_key_scalars b)

use Rattle.tc_meaning.specs.Equal.{attribute_decides}
use Rattle.tc_options.specs.FqCodel.{fq_codel_option}
use Rattle.tc_options.specs.Ingress.{ingress_option}
use Rattle.tc_options.specs.U32.{u32_option}
use Rattle.tc_options.specs.MatchAll.{matchall_option}
use Rattle.tc_options.specs.Bpf.{bpf_option}
use Rattle.tc_options.specs.Options.{tc_option}
use Rattle.tc_options.proofs.laws.equal.Goals as goal

pub returns-clause-fq_codel : goal.returns-clause-fq_codel
returns-clause-fq_codel g c = λ a b. attribute_decides (fq_codel_option a) (fq_codel_option b)

pub returns-clause-ingress : goal.returns-clause-ingress
returns-clause-ingress g c = λ a b. attribute_decides (ingress_option a) (ingress_option b)

pub returns-clause-u32 : goal.returns-clause-u32
returns-clause-u32 g c = λ a b. attribute_decides (u32_option a) (u32_option b)

pub returns-clause-matchall : goal.returns-clause-matchall
returns-clause-matchall g c = λ a b. attribute_decides (matchall_option a) (matchall_option b)

pub returns-clause-bpf : goal.returns-clause-bpf
returns-clause-bpf g c = λ a b. attribute_decides (bpf_option a) (bpf_option b)

pub returns-clause-option : goal.returns-clause-option
returns-clause-option g c = λ a b. attribute_decides (tc_option a) (tc_option b)

use Rattle.std.proofs.Common.{rules}
use Rattle.tc_canon.specs.Tables.Options.{fq_codel_options, ingress_options, u32_options, matchall_options, bpf_options, option_kinds}
use Rattle.tc_canon.specs.Tables.Flower.{flower_options}
use Rattle.tc_canon.proofs.Choices.{known-by}
use Rattle.tc_canon.proofs.options.canon_options.Goals as goal

pub returns-then-eq : goal.returns-then-eq
returns-then-eq c =
    known-by option_kinds fq_codel_options c.args.kind.now c.args.value.now _ (search rules) (search rules) c.is_canonical_list.ensures

pub returns-then-eq-2 : goal.returns-then-eq-2
returns-then-eq-2 c =
    known-by option_kinds ingress_options c.args.kind.now c.args.value.now _ (search rules) (search rules) c.is_canonical_list-then-eq-2.ensures

pub returns-then-eq-3 : goal.returns-then-eq-3
returns-then-eq-3 c =
    known-by option_kinds flower_options c.args.kind.now c.args.value.now _ (search rules) (search rules) c.is_canonical_list-then-eq-3.ensures

pub returns-then-eq-4 : goal.returns-then-eq-4
returns-then-eq-4 c =
    known-by option_kinds u32_options c.args.kind.now c.args.value.now _ (search rules) (search rules) c.is_canonical_list-then-eq-4.ensures

pub returns-then-eq-5 : goal.returns-then-eq-5
returns-then-eq-5 c =
    known-by option_kinds matchall_options c.args.kind.now c.args.value.now _ (search rules) (search rules) c.is_canonical_list-then-eq-5.ensures

pub returns-then-eq-6 : goal.returns-then-eq-6
returns-then-eq-6 c =
    known-by option_kinds bpf_options c.args.kind.now c.args.value.now _ (search rules) (search rules) c.is_canonical_list-then-eq-6.ensures

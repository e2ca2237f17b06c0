use Rattle.std.proofs.Common.{rules}
use Rattle.tc_canon.specs.Descriptor.{others}
use Rattle.tc_canon.specs.Tables.Actions.{mirror_options, nat_options, tunnel_key_options, action_option_kinds}
use Rattle.tc_canon.proofs.Choices.{chosen-by}
use Rattle.tc_canon.proofs.actions.canon_action_options.Goals as goal

pub returns-then-eq : goal.returns-then-eq
returns-then-eq c = chosen-by action_option_kinds mirror_options c.args.kind.now c.args.value.now _ (search rules) c.is_canonical_list.ensures

pub returns-then-eq-2 : goal.returns-then-eq-2
returns-then-eq-2 c = chosen-by action_option_kinds nat_options c.args.kind.now c.args.value.now _ (search rules) c.is_canonical_list-then-eq-2.ensures

pub returns-then-eq-3 : goal.returns-then-eq-3
returns-then-eq-3 c = chosen-by action_option_kinds tunnel_key_options c.args.kind.now c.args.value.now _ (search rules) c.is_canonical_list-then-eq-3.ensures

pub returns-else-eq-3 : goal.returns-else-eq-3
returns-else-eq-3 c = chosen-by action_option_kinds others c.args.kind.now c.args.value.now _ (search rules) c.is_canonical_list-else-eq-3.ensures

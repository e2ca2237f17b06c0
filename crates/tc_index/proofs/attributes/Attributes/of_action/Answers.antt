use Rattle.tc_index.specs.Attributes.{action_items}
use Rattle.tc_index.proofs.attributes.Attributes.of_action.Goals as goal

pub returns : goal.returns
unfolding action_items
returns c = c.after_header.ensures

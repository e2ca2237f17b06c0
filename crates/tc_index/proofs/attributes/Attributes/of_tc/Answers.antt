use Rattle.tc_index.specs.Attributes.{tc_items}
use Rattle.tc_index.proofs.attributes.Attributes.of_tc.Goals as goal

pub returns : goal.returns
unfolding tc_items
returns c = c.after_header.ensures

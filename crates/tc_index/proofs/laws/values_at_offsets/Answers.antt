use Rattle.nla_frames.specs.Reading.{keep}
use Rattle.tc_canon.specs.Descriptor.{table}
use Rattle.tc_canon.specs.Kind.{kind_of_frame}
use Rattle.tc_canon.specs.Tables.Messages.{attributes, action_message_attributes}
use Rattle.tc_index.specs.Attributes.{tc_items, action_items}
use Rattle.tc_index.proofs.Offsets.{message-at}
use Rattle.tc_index.proofs.laws.values_at_offsets.Goals as goal

pub returns-clause-tc : goal.returns-clause-tc
unfolding tc_items
returns-clause-tc c = message-at 20 (table attributes) kind_of_frame c.args.bytes.now

pub returns-clause-action : goal.returns-clause-action
unfolding action_items
returns-clause-action c = message-at 4 (table action_message_attributes) keep c.args.bytes.now
